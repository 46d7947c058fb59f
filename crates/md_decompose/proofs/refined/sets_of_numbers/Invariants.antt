use Rattle.std.proofs.Common.{◌≡◌, ℕ, Some, length}
use Rattle.md_graph.specs.Sets.{Has}
use Rattle.md_graph.proofs.Walks.{Walked}
use Rattle.md_decompose.specs.Refined.{number_at, set_yet_at}
use Rattle.md_decompose.proofs.refined.sets_of_numbers.Given as goal

abbrev pub invariant-loop-v : goal.invariant-loop-v
invariant-loop-v g l = record {
  len : length l.sets.items ≡ l.fn.count;
  members : (k v : ℕ) → Has (set_yet_at l.sets.items k) v → Has l.rest v × (number_at l.numbers.items v ≡ Some k);
  walked : Walked l.rest l.v-iterator (λ v. (k : ℕ) → number_at l.numbers.items v ≡ Some k → Has (set_yet_at l.sets.items k) v);
}
