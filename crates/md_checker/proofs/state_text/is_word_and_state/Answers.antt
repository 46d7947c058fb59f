use Rattle.std.proofs.Common.{eqb-true, eq-eqb, refl}
use Rattle.std.proofs.lemmas.Slice.Eq.{strip_prefix_is}
use Rattle.md_graph.proofs.SetLemmas.{clash}
use Rattle.md_tree.specs.TreeTexts.{tree_text}
use Rattle.md_tree.proofs.Stacking.{if_ok}
use Rattle.md_checker.proofs.StateTexts.{state_told, state_found}
use Rattle.md_checker.proofs.state_text.is_word_and_state.Goals as goal

pub returns-in-Some : goal.returns-in-Some
returns-in-Some g c =
    let p = strip_prefix_is (λ a b. (eqb-true a b, eq-eqb a b)) c.args.text.now _ c.strip_prefix.result c.strip_prefix.ensures.cases in
    let is = c.in-Some.is in
    let cut = rw is at p in
    let graph = c.vertices.ensures.graph in
    if_ok c.is_text_by_rows.result
    (λ fit told. (
      λ yes. let t = told.0 yes in state_told c.args.mode graph c.args.word.now c.in-Some.behind.now c.args.text.now cut t.0 t.1,
      λ s. told.1 (state_found c.args.mode graph c.args.word.now c.in-Some.behind.now c.args.text.now cut s),
    )) c.is_text_by_rows.ensures.text

pub returns-in-None : goal.returns-in-None
returns-in-None g c =
    let p = strip_prefix_is (λ a b. (eqb-true a b, eq-eqb a b)) c.args.text.now _ c.strip_prefix.result c.strip_prefix.ensures.cases in
    let is = c.in-None.is in
    let other = rw is at p in
    (λ yes. clash yes refl, λ s. absurd (other (tree_text s.tree) s.spelled))
