use Rattle.std.proofs.Common.{◌≡◌, ◌⊎◌, ◌-◌, ◌<◌, ◌≤◌, ◌==◌, nat_le, nat_lt, get_or, length, drop, sym, ◌∙◌, subst, inl, inr, arith, ltb-true}
use Rattle.std.proofs.lemmas.Grind.{common_steps}
use Rattle.std.proofs.lemmas.Bool.{and_parts, or_cases, eqb-true}
use Rattle.std.proofs.lemmas.Bool.Decides.{nat_tests}
use Rattle.std.proofs.lemmas.List.{drop_more, take_rest}
use Rattle.md_graph6.specs.FileLine.{graph_of_line}
use Rattle.md_graph6.specs.File.{graphs_in}
use Rattle.md_graph6.specs.First.{IsFirstBound}
use Rattle.md_graph6.proofs.ReadLemmas.{graphs_of_lines-end}
use Rattle.md_graph6.proofs.FirstLemmas.{none_bound, small_bound, skipped}
use Rattle.md_graph6.proofs.reader.first_bound.Goals as goal

pub returns-then-is_small_size : goal.returns-then-is_small_size
returns-then-is_small_size c =
    let text = c.loop-rest.rest.now in
    let some : 0 < length text = grind (arith, common_steps) in
    let parts = and_parts (nat_le 63 (get_or text 0 0)) (nat_lt (get_or text 0 0) 126) (sym c.is_small_size.ensures ∙ c.if-is_small_size.true) in
    let low : 63 ≤ get_or text 0 0 = grind (arith, nat_tests, parts.0) in
    let bound = small_bound text some low (ltb-true (get_or text 0 0) 126 parts.1) c.loop-rest.invariant.sound in
    subst (λ n. IsFirstBound n (graphs_in c.args.text.now)) (sym c.from.ensures) (subst (IsFirstBound (get_or text 0 0 - 63)) c.loop-rest.invariant.same bound)

pub returns-then-not-ends_line : goal.returns-then-not-ends_line
returns-then-not-ends_line c = subst (IsFirstBound c.leading_size.result) c.loop-rest.invariant.same c.leading_size.ensures

pub loop-rest-preserved : goal.loop-rest-preserved
loop-rest-preserved c =
    let text = c.loop-rest.rest.now in
    let ends : (get_or text 0 0 ≡ 10) ⊎ (get_or text 0 0 ≡ 13) =
    elim (or_cases (get_or text 0 0 == 10) (get_or text 0 0 == 13) (grind (arith, common_steps))) [
      | inl feed ↦ inl (eqb-true (get_or text 0 0) 10 feed)
      | inr returned ↦ inr (eqb-true (get_or text 0 0) 13 returned)
    ] in
    let some : 0 < length text = grind (arith, common_steps) in
    let behind = skipped text (drop 1 text) (get_or text 0 0) (drop_more text 0 0 some) ends c.loop-rest.invariant.sound in
    rw take_rest (record { sound = behind.0; same = behind.1 ∙ c.loop-rest.invariant.same })

pub returns : goal.returns
returns c =
    let end : length c.loop-rest.rest.now ≡ 0 = grind (arith, common_steps) in
    none_bound (sym c.loop-rest.invariant.same ∙ graphs_of_lines-end graph_of_line c.loop-rest.rest.now end)
