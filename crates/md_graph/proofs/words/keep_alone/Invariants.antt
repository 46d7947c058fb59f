use Rattle.std.proofs.Common.{◌≡◌, ℕ, get_or, bit_and, bit_or, bit_xor, ◌<◌, ◌≤◌}
use Rattle.md_graph.proofs.words.keep_alone.Given as goal

abbrev pub invariant-loop-i : goal.invariant-loop-i
invariant-loop-i l = record {
  first : (k : ℕ) → k < l.i → get_or l.words k 0 ≡ bit_xor (get_or l.of k 0) (bit_and (get_or l.of k 0) (bit_or (get_or l.first k 0) (get_or l.second k 0)));
  none : l.any ≡ 0 → (k : ℕ) → k < l.i → get_or l.words k 0 ≡ 0;
  rest : (k : ℕ) → l.i ≤ k → get_or l.words k 0 ≡ get_or l.initial.words k 0;
}
