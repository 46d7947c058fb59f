-- The tree of the first state, and the lines of the items, one behind the other.
use Rattle.std.proofs.Common.{◌≤◌, ◌∙◌, refl, inr, arith}
use Rattle.md_report.specs.Lines.{tree}
use Rattle.md_report.specs.declared.line.SessionMode.TheVariants.{Of}
use Rattle.md_report.specs.Places.{at_state, at_items, after_end}
use Rattle.md_report.specs.Sessions.{first_state}
use Rattle.md_top.proofs.Lines.{puts_behind, stopped_behind, stopped_before, no_lines}
use Rattle.md_top.proofs.classes.put_opened.Goals as goal

pub returns-in_err-text-clause-puts : goal.returns-in_err-text-clause-puts
returns-in_err-text-clause-puts g c =
    stopped_behind _ (at_state (Of c.args.session.class) c.args.session.graph c.args.script.now) _ _ _ _ _ _ _ _ _ c.from_residual.ensures.1
    (no_lines _ _) (let still : g.O.Sink.faults c.args.out.now ≤ g.O.Sink.faults c.args.out.now = omega arith in still) (stopped_before _ _)

pub returns-in_err-put_text-clause-puts : goal.returns-in_err-put_text-clause-puts
returns-in_err-put_text-clause-puts g c =
    let told = c.in_ok-text.ensures in
    stopped_behind _ (at_state (Of c.args.session.class) c.args.session.graph c.args.script.now) _ _ _ _ _ _ _ _ _ c.from_residual-in_err-put_text.ensures.1
    (no_lines _ _) (let still : g.O.Sink.faults c.args.out.now ≤ g.O.Sink.faults c.args.out.now = omega arith in still)
    (c.in_err-put_text.ensures.puts (at_state (Of c.args.session.class) c.args.session.graph c.args.script.now) (tree told.0) (c.deref.ensures.value ∙ told.2)
    (inr (c.requires.allowed, (told.0, told.1, refl))))

pub returns-clause-puts : goal.returns-clause-puts
returns-clause-puts g c =
    let told = c.in_ok-text.ensures in
    puts_behind _ (at_items (Of c.args.session.class) (first_state c.args.session.graph) c.args.script.now) after_end _ _ _ _ _ _ _
    (c.in_ok-put_text.ensures.puts (at_state (Of c.args.session.class) c.args.session.graph c.args.script.now) (tree told.0) (c.deref.ensures.value ∙ told.2)
    (inr (c.requires.allowed, (told.0, told.1, refl))))
    c.put_text.ensures.faults_never_fall
    c.put_items.ensures.puts
