use Rattle.std.proofs.Common.{◌≡◌, Some, ◌∙◌, ap, subst}
use Rattle.md_graph.specs.PlainGraph.{adjacent}
use Rattle.md_modules.proofs.Turns.{graph_adjacency}
use Rattle.md_tree.specs.Plain.{plain, plain_option}
use Rattle.md_tree.specs.StrongTrees.{IsTree}
use Rattle.md_tree.specs.TreeTexts.{text_of}
use Rattle.md_tree.proofs.OneTree.{well_formed_proof}
use Rattle.md_tree.proofs.Stacking.{if_ok}
use Rattle.md_checker.proofs.GraphTexts.{same_tree}
use Rattle.md_checker.proofs.text_fit.fits.Goals as goal

pub returns-in_ok-text-in-Some : goal.returns-in_ok-text-in-Some
returns-in_ok-text-in-Some g c =
    let h = c.args.graph.now in
    let graph = c.vertices-vertices.ensures.graph in
    let o = plain_option c.args.tree.now in
    let t = plain c.in-Some.field-0 in
    let is_some : o ≡ Some t = ap plain_option c.in-Some.is in
    let spelled = c.deref.ensures.value ∙ c.in_ok-text-in-Some.ensures.text in
    if_ok c.is_text_of_tree.result
    (λ fit told. (
      λ yes. let u = told.0 yes in subst (IsTree (adjacent h) h.vertices) (same_tree _ o u.0 spelled u.3) u.2,
      λ tree.
          let made = subst (IsTree (adjacent h) h.vertices) is_some tree in
          told.1 (t, well_formed_proof (adjacent h) (graph_adjacency graph) h.vertices (Some t) made graph.names, made, spelled ∙ ap text_of is_some),
    )) c.is_text_of_tree.ensures
