use Rattle.std.proofs.Common.{◌≡◌, get_or, bit_or}
use Rattle.md_graph.proofs.Covering.{AllKnown}
use Rattle.md_graph.proofs.words.are_apart_as_known.Given as goal

abbrev pub invariant-loop-i : goal.invariant-loop-i
invariant-loop-i l = record {
  known : l.unknown ≡ 0 → AllKnown (λ k. get_or l.first k 0) (λ k. bit_or (get_or l.second k 0) (get_or l.first_known k 0)) (λ k. get_or l.second k 0) (λ k. bit_or (get_or l.first k 0) (get_or l.second_known k 0)) l.i;
  none : AllKnown (λ k. get_or l.first k 0) (λ k. bit_or (get_or l.second k 0) (get_or l.first_known k 0)) (λ k. get_or l.second k 0) (λ k. bit_or (get_or l.first k 0) (get_or l.second_known k 0)) l.i → l.unknown ≡ 0;
}
