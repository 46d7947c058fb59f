use Rattle.std.proofs.Common.{◌++◌, Some, eqb-true, eq-eqb, refl, ◌∙◌, ap}
use Rattle.std.proofs.lemmas.Slice.Eq.{strip_prefix_is}
use Rattle.md_graph.specs.PlainGraph.{adjacent}
use Rattle.md_graph.proofs.SetLemmas.{clash}
use Rattle.md_modules.proofs.Turns.{graph_adjacency}
use Rattle.md_tree.specs.TreeTexts.{tree_text}
use Rattle.md_tree.proofs.OneTree.{well_formed_proof}
use Rattle.md_tree.proofs.Stacking.{if_ok}
use Rattle.md_checker.proofs.GraphTexts.{word_cut}
use Rattle.md_checker.proofs.text_fit.is_word_and_tree.Goals as goal

pub returns-in-Some : goal.returns-in-Some
returns-in-Some g c =
    let p = strip_prefix_is (λ a b. (eqb-true a b, eq-eqb a b)) c.args.text.now _ c.strip_prefix.result c.strip_prefix.ensures.cases in
    let is = c.in-Some.is in
    let cut = rw is at p in
    let graph = c.vertices-vertices.ensures.graph in
    let h = c.args.graph.now in
    if_ok c.is_text_of_tree.result
    (λ fit told. (
      λ yes. let t = told.0 yes in (t.0, t.2, cut ∙ ap (λ l. c.args.word.now ++ l) t.3),
      λ t. told.1 (t.0, well_formed_proof (adjacent h) (graph_adjacency graph) h.vertices (Some t.0) t.1 graph.names, t.1, word_cut c.args.word.now c.in-Some.behind.now c.args.text.now t.0 cut t.2),
    )) c.is_text_of_tree.ensures

pub returns-in-None : goal.returns-in-None
returns-in-None g c =
    let p = strip_prefix_is (λ a b. (eqb-true a b, eq-eqb a b)) c.args.text.now _ c.strip_prefix.result c.strip_prefix.ensures.cases in
    let is = c.in-None.is in
    let other = rw is at p in
    (λ yes. clash yes refl, λ t. absurd (other (tree_text t.0) t.2))
