use Rattle.std.proofs.Common.{◌≡◌, sym, ◌∙◌, eqb-true, eq-eqb}
use Rattle.std.specs.FinSet.{empty}
use Rattle.std.proofs.lemmas.Slice.Eq.{slice_eq-Decides}
use Rattle.md_graph.proofs.SetLemmas.{clash}
use Rattle.md_tree.proofs.Stacking.{if_ok}
use Rattle.md_dcheck.proofs.DirectedJudged.{word_for_none, text_of_some}
use Rattle.md_dcheck.proofs.digraph_text.is_tree_text.Goals as goal

pub returns-then-is_empty : goal.returns-then-is_empty
returns-then-is_empty g c =
    let same = slice_eq-Decides (λ a b. (eqb-true a b, eq-eqb a b)) c.args.text.now c.as_slice.result.now c.eq.result c.eq.ensures in
    word_for_none c.args.graph.now c.args.text.now c.eq.result (sym c.vertices.ensures.set ∙ c.is_empty.ensures.exactly.0 c.if-is_empty.true)
    (λ yes. same.0 yes ∙ c.as_slice.ensures, λ is. same.1 (is ∙ sym c.as_slice.ensures))

pub returns : goal.returns
returns g c =
    let some : c.args.graph.now.vertices ≡ empty → ⊥ = λ none. clash (c.is_empty.ensures.exactly.1 (c.vertices.ensures.set ∙ none)) c.if-is_empty.false in
    if_ok c.is_text_of_tree.result (λ fit told. text_of_some c.args.graph.now c.args.text.now fit some told) c.is_text_of_tree.ensures
