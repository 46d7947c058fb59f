-- The line of an induced P4, and the end; or what comes of a cograph.
use Rattle.std.proofs.Common.{subst}
use Rattle.md_graph.specs.PlainGraph.{PlainGraph}
use Rattle.md_report.specs.Lines.{not_cograph}
use Rattle.md_report.specs.Places.{Place, at_state, after_end, next_place}
use Rattle.md_session.specs.Answers.{IsOpened}
use Rattle.md_top.specs.CographModes.{cograph_mode}
use Rattle.md_top.specs.Sinks.{sink_run, PutsLines}
use Rattle.md_top.proofs.FromCographs.{stopped_may, stopped_end, stopped_place}
use Rattle.md_top.proofs.Lines.{puts_behind}
use Rattle.md_top.proofs.cographs.put_cographs.Goals as goal

pub returns-in-Session-clause-puts : goal.returns-in-Session-clause-puts
returns-in-Session-clause-puts g c =
    let opened = subst (IsOpened c.args.graph) c.in-Session.is c.in_ok-session.ensures in
    subst (λ (k : PlainGraph). PutsLines (at_state (cograph_mode c.args.told) k c.args.script.now) after_end c.put_opened.result (sink_run g.O.Sink c.args.out.now c.put_opened.new.out)) opened.0 c.put_opened.ensures.puts

pub returns-in_ok-put_report_line-in-NotCograph-clause-puts : goal.returns-in_ok-put_report_line-in-NotCograph-clause-puts
returns-in_ok-put_report_line-in-NotCograph-clause-puts g c =
    let p = c.in-NotCograph.p in
    let path = subst (IsOpened c.args.graph) c.in-NotCograph.is c.in_ok-session.ensures in
    let first = at_state (cograph_mode c.args.told) c.args.graph c.args.script.now in
    puts_behind first (next_place first (not_cograph p)) after_end _ _ _ _ _ _ _
    (c.in_ok-put_report_line-in-NotCograph.ensures.puts first (stopped_may c.args.told c.args.graph c.args.script.now p path))
    c.put_report_line.ensures.faults_never_fall
    (subst (λ (q : Place). PutsLines (next_place first (not_cograph p)) q c.put_report_line-in-NotCograph.result (sink_run g.O.Sink c.put_report_line.new.out c.put_report_line-in-NotCograph.new.out))
    (stopped_place c.args.told c.args.graph c.args.script.now p)
    (c.put_report_line-in-NotCograph.ensures.puts (next_place first (not_cograph p)) (stopped_end c.args.told c.args.graph c.args.script.now p)))
