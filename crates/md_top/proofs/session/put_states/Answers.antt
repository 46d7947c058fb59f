-- The tree of the first state, and the lines of the items, one behind the other.
use Rattle.std.proofs.Common.{◌≤◌, ◌∙◌, refl, subst, arith}
use Rattle.md_graph.specs.PlainGraph.{PlainGraph, adjacent}
use Rattle.md_tree.specs.StrongTrees.{IsTree}
use Rattle.md_report.specs.Lines.{tree}
use Rattle.md_report.specs.declared.line.SessionMode.TheVariants as modes
use Rattle.md_report.specs.Places.{at_state, at_items, after_end}
use Rattle.md_report.specs.Sessions.{first_state}
use Rattle.md_top.specs.Sinks.{sink_run, PutsLines}
use Rattle.md_top.proofs.Lines.{puts_behind, stopped_behind, no_lines}
use Rattle.md_top.proofs.session.put_states.Goals as goal

pub returns-clause-puts : goal.returns-clause-puts
returns-clause-puts g c =
    let told = c.in_ok-text.ensures in
    puts_behind _ (at_items modes.Edit (first_state c.args.graph) c.args.script.now) after_end _ _ _ _ _ _ _
    (c.in_ok-put_text.ensures.puts (at_state modes.Edit c.args.graph c.args.script.now) (tree told.0) (c.deref.ensures.value ∙ told.2)
    (told.0, subst (λ (s : PlainGraph). IsTree (adjacent s) s.vertices told.0) c.in_ok-session.ensures told.1, refl))
    c.put_text.ensures.faults_never_fall
    (subst (λ (s : PlainGraph). PutsLines (at_items modes.Edit (first_state s) c.args.script.now) after_end c.put_items.result
    (sink_run g.O.Sink c.put_text.new.out c.put_items.new.out))
    c.in_ok-session.ensures c.put_items.ensures.puts)

pub returns-in_err-put_text-clause-puts : goal.returns-in_err-put_text-clause-puts
returns-in_err-put_text-clause-puts g c =
    let told = c.in_ok-text.ensures in
    stopped_behind _ (at_state modes.Edit c.args.graph c.args.script.now) _ _ _ _ _ _ _ _ _ c.from_residual-in_err-put_text.ensures.1
    (no_lines _ _) (let still : g.O.Sink.faults c.args.out.now ≤ g.O.Sink.faults c.args.out.now = omega arith in still)
    (c.in_err-put_text.ensures.puts (at_state modes.Edit c.args.graph c.args.script.now) (tree told.0) (c.deref.ensures.value ∙ told.2)
    (told.0, subst (λ (s : PlainGraph). IsTree (adjacent s) s.vertices told.0) c.in_ok-session.ensures told.1, refl))
