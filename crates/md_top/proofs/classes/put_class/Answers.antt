-- The line of a bar, and the end; or what comes of a graph of the class.
use Rattle.std.proofs.Common.{◌≤◌, ◌∙◌, refl, inl, subst, arith}
use Rattle.md_report.specs.declared.line.SessionMode.TheVariants.{Of}
use Rattle.md_report.specs.Lines.{barred}
use Rattle.md_report.specs.Places.{at_state, after_end, next_place}
use Rattle.md_class.specs.ClassSessions.{PlainClassSession}
use Rattle.md_class.specs.ClassOpenings.{IsClassOpened}
use Rattle.md_top.specs.Sinks.{sink_run, PutsLines}
use Rattle.md_top.proofs.Lines.{puts_behind, stopped_behind, no_lines}
use Rattle.md_top.proofs.classes.put_class.Goals as goal

pub returns-in-Session-clause-puts : goal.returns-in-Session-clause-puts
returns-in-Session-clause-puts g c =
    let opened = subst (IsClassOpened c.args.graph c.args.class) c.in-Session.is c.in_ok-session.ensures.opened in
    subst (λ (s : PlainClassSession). PutsLines (at_state (Of s.class) s.graph c.args.script.now) after_end c.put_opened.result (sink_run g.O.Sink c.args.out.now c.put_opened.new.out)) opened.0 c.put_opened.ensures.puts

pub returns-in_err-put_text-in-Barred-clause-puts : goal.returns-in_err-put_text-in-Barred-clause-puts
returns-in_err-put_text-in-Barred-clause-puts g c =
    let bar = c.in-Barred.bar in
    let is = subst (IsClassOpened c.args.graph c.args.class) c.in-Barred.is c.in_ok-session.ensures.opened in
    let first = at_state (Of c.args.class) c.args.graph c.args.script.now in
    stopped_behind _ first _ _ _ _ _ _ _ _ _ c.from_residual-in_err-put_text-in-Barred.ensures.1
    (no_lines _ _) (let still : g.O.Sink.faults c.args.out.now ≤ g.O.Sink.faults c.args.out.now = omega arith in still)
    (c.in_err-put_text-in-Barred.ensures.puts first (barred bar) (c.deref.ensures.value ∙ c.in_ok-text-in-Barred.ensures) (inl (bar, is, refl)))

pub returns-in_ok-put_text-in-Barred-clause-puts : goal.returns-in_ok-put_text-in-Barred-clause-puts
returns-in_ok-put_text-in-Barred-clause-puts g c =
    let bar = c.in-Barred.bar in
    let is = subst (IsClassOpened c.args.graph c.args.class) c.in-Barred.is c.in_ok-session.ensures.opened in
    let first = at_state (Of c.args.class) c.args.graph c.args.script.now in
    puts_behind first (next_place first (barred bar)) after_end _ _ _ _ _ _ _
    (c.in_ok-put_text-in-Barred.ensures.puts first (barred bar) (c.deref.ensures.value ∙ c.in_ok-text-in-Barred.ensures) (inl (bar, is, refl)))
    c.put_text.ensures.faults_never_fall
    (c.put_report_line.ensures.puts (next_place first (barred bar)) refl)
