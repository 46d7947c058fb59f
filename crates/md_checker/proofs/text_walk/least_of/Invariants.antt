use Rattle.std.proofs.Common.{◌≡◌, ◌<◌, ◌≤◌, ℕ, length, get_or}
use Rattle.md_checker.proofs.text_walk.least_of.Given as goal

abbrev pub invariant-loop-number : goal.invariant-loop-number
invariant-loop-number l = record {
  there : (i : ℕ) × (i < length l.numbers) × (get_or l.numbers i 0 ≡ l.least);
  first : (k : ℕ) → k < l.number-index → l.least ≤ get_or l.numbers k 0;
}
