-- The tree of the last state, and the end.
use Rattle.std.proofs.Common.{◌≡◌, [], ◌≤◌, Bool, Option, refl, sym, ◌∙◌, subst, arith}
use Rattle.md_graph.specs.PlainGraph.{PlainGraph, adjacent}
use Rattle.md_tree.specs.StrongTrees.{IsTree}
use Rattle.md_tree.specs.Trees.{PlainTree}
use Rattle.md_report.specs.Lines.{tree}
use Rattle.md_report.specs.declared.line.SessionMode.TheVariants as modes
use Rattle.md_report.specs.Places.{at_items, at_end, after_end}
use Rattle.md_report.specs.Sessions.{State, HasTreeLine}
use Rattle.md_top.specs.CographModes.{cograph_mode}
use Rattle.md_top.specs.Sinks.{sink_run, PutsLines}
use Rattle.md_top.proofs.Lines.{puts_behind, stopped_behind, stopped_before, no_lines}
use Rattle.md_top.proofs.cographs.put_last.Goals as goal

tree_of_state : (s : State) (g : PlainGraph) (t : Option PlainTree) → s.graph ≡ g → IsTree (adjacent g) g.vertices t → HasTreeLine tree s.graph (tree t)
tree_of_state s g t same is = subst (λ (h : PlainGraph). HasTreeLine tree h (tree t)) (sym same) (t, is, refl)

pub returns-then-told-clause-puts : goal.returns-then-told-clause-puts
returns-then-told-clause-puts g c s same =
    subst (λ (b : Bool). PutsLines (at_items (cograph_mode b) s []) after_end c.put_report_line.result (sink_run g.O.Sink c.args.out.now c.put_report_line.new.out)) (sym c.if-told.true)
    (c.put_report_line.ensures.puts (at_items modes.Cograph s []) refl)

pub returns-in_err-text-clause-puts : goal.returns-in_err-text-clause-puts
returns-in_err-text-clause-puts g c s same =
    stopped_behind _ (at_items (cograph_mode c.args.told) s []) _ _ _ _ _ _ _ _ _ c.from_residual.ensures.1
    (no_lines _ _) (let still : g.O.Sink.faults c.args.out.now ≤ g.O.Sink.faults c.args.out.now = omega arith in still) (stopped_before _ _)

pub returns-in_err-put_text-clause-puts : goal.returns-in_err-put_text-clause-puts
returns-in_err-put_text-clause-puts g c s same =
    let told = c.in_ok-text.ensures in
    subst (λ (b : Bool). PutsLines (at_items (cograph_mode b) s []) after_end c.from_residual-in_err-put_text.result (sink_run g.O.Sink c.args.out.now c.put_text.new.out)) (sym c.if-told.false)
    (stopped_behind (at_items modes.Quiet s []) (at_items modes.Quiet s []) after_end _ _ _ _ _ _ _ _ c.from_residual-in_err-put_text.ensures.1
    (no_lines _ _) (let still : g.O.Sink.faults c.args.out.now ≤ g.O.Sink.faults c.args.out.now = omega arith in still)
    (c.in_err-put_text.ensures.puts (at_items modes.Quiet s []) (tree told.0) (c.deref.ensures.value ∙ told.2) (tree_of_state s c.args.session.now told.0 same told.1)))

pub returns-clause-puts : goal.returns-clause-puts
returns-clause-puts g c s same =
    let told = c.in_ok-text.ensures in
    subst (λ (b : Bool). PutsLines (at_items (cograph_mode b) s []) after_end c.put_report_line-2.result (sink_run g.O.Sink c.args.out.now c.put_report_line-2.new.out)) (sym c.if-told.false)
    (puts_behind (at_items modes.Quiet s []) at_end after_end _ _ _ _ _ _ _
    (c.in_ok-put_text.ensures.puts (at_items modes.Quiet s []) (tree told.0) (c.deref.ensures.value ∙ told.2) (tree_of_state s c.args.session.now told.0 same told.1))
    c.put_text.ensures.faults_never_fall
    (c.put_report_line-2.ensures.puts at_end refl))
