-- In mode quiet what comes at the items comes behind the head.
use Rattle.std.proofs.Common.{Bool, refl, sym, subst}
use Rattle.md_report.specs.Places.{at_state, after_end}
use Rattle.md_top.specs.CographModes.{cograph_mode}
use Rattle.md_top.specs.Sinks.{sink_run, PutsLines}
use Rattle.md_top.proofs.FromCographs.{puts_from}
use Rattle.md_top.proofs.cographs.put_opened.Goals as goal

pub returns-then-told-clause-puts : goal.returns-then-told-clause-puts
returns-then-told-clause-puts g c =
    subst (λ (b : Bool). PutsLines (at_state (cograph_mode b) c.args.session c.args.script.now) after_end c.put_told.result (sink_run g.O.Sink c.args.out.now c.put_told.new.out)) (sym c.if-told.true) c.put_told.ensures.puts

pub returns-clause-puts : goal.returns-clause-puts
returns-clause-puts g c =
    subst (λ (b : Bool). PutsLines (at_state (cograph_mode b) c.args.session c.args.script.now) after_end c.put_answers.result (sink_run g.O.Sink c.args.out.now c.put_answers.new.out)) (sym c.if-told.false)
    (puts_from c.args.session c.args.session c.args.script.now c.put_answers.result _ _ _ _ refl c.requires.cograph c.put_answers.ensures.puts)
