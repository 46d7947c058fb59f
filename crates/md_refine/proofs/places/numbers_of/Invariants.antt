use Rattle.std.proofs.Common.{◌≡◌, ℕ, ◌<◌, ◌≤◌, None, length, get_or, vec_len, vec_capacity}
use Rattle.md_refine.specs.Slots.{position_of_mark}
use Rattle.md_refine.proofs.places.numbers_of.Given as goal

abbrev pub invariant-loop-v : goal.invariant-loop-v
invariant-loop-v l = record {
  numbers : (k : ℕ) → k < l.v → get_or l.numbers.items k None ≡ position_of_mark l.owners.items l.positions.items (get_or l.homes.items k None);
  len : length l.numbers.items ≡ l.v;
  room : vec_len l.homes ≤ vec_capacity l.numbers;
}
