use Rattle.std.proofs.Common.{◌≡◌, ℕ, ◌+◌, ◌-◌, ◌≤◌, ◌++◌, replicate, vec_len}
use Rattle.md_dimacs.proofs.writer.fill_up.Given as goal

abbrev pub invariant-loop-piece : goal.invariant-loop-piece
invariant-loop-piece l = record {
  count : vec_len l.places ≤ l.v + 1;
  items : (k : ℕ) × (l.places.items ≡ l.fn.places.items ++ replicate k l.piece);
}

abbrev pub decreases-loop-piece : goal.decreases-loop-piece
decreases-loop-piece l = l.v + 1 - vec_len l.places
