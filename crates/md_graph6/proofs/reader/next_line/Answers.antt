use Rattle.std.proofs.Common.{◌≡◌, length, sym, ◌∙◌, arith}
use Rattle.std.proofs.lemmas.Grind.{common_steps}
use Rattle.md_text.specs.Lines.{without_return}
use Rattle.md_graph6.proofs.ReadLemmas.{from_first-cut_skip, from_first-cut_more, from_first-end}
use Rattle.md_graph6.proofs.reader.next_line.Goals as goal

pub returns-then-not-is_empty-clause-first : goal.returns-then-not-is_empty-clause-first
returns-then-not-is_empty-clause-first c =
    rw c.without_return-line.ensures.value
    (λ some. sym c.loop-rest.invariant ∙ from_first-cut_more _ _ _ c.split_line.ensures.cut some)

pub loop-rest-preserved : goal.loop-rest-preserved
loop-rest-preserved c =
    let none : length (without_return c.split_line.result.0.now) ≡ 0 = grind (arith, common_steps) in
    sym (from_first-cut_skip _ _ _ c.split_line.ensures.cut none) ∙ c.loop-rest.invariant

pub returns-clause-none : goal.returns-clause-none
returns-clause-none c = λ none. sym c.loop-rest.invariant ∙ from_first-end _ none
