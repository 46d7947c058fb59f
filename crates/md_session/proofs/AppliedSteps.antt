-- The step of an edit that is applied.
use Rattle.std.proofs.Common.{◌≡◌, Option, None, refl, sym, ◌∙◌, ap, subst}
use Rattle.md_graph.specs.PlainGraph.{PlainGraph, adjacent}
use Rattle.md_tree.specs.Trees.{PlainTree}
use Rattle.md_tree.specs.StrongTrees.{IsTree}
use Rattle.md_script.specs.declared.edit.Edit.{Edit}
use Rattle.md_script.specs.Edit.{reason_of, after}
use Rattle.md_report.specs.Lines.{applied}
use Rattle.md_report.specs.Sessions.{SessionStep, IsLineBy, state_by}

-- the line with the tree of the changed graph
pub applied_step : (g h next : PlainGraph) (edit : Edit) (t : Option PlainTree) → g ≡ h → reason_of g edit ≡ None → next ≡ after g edit → IsTree (adjacent next) next.vertices t → SessionStep h edit (applied t) next
applied_step g h next edit t same none is tree = subst (λ k. SessionStep k edit (applied t) next) same (record {
  line_is = subst (λ r. IsLineBy r g edit (applied t)) (sym none) (t, subst (λ k. IsTree (adjacent k) k.vertices t) is tree, refl);
  next_is = is ∙ sym (ap (λ r. state_by r g edit) none);
})
