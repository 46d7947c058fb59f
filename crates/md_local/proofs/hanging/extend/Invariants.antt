use Rattle.std.proofs.Common.{◌≡◌, ℕ, ◌+◌, ◌-◌, vec_len}
use Rattle.md_local.specs.Substitution.{standing_at}
use Rattle.md_local.proofs.hanging.extend.Given as goal

abbrev pub invariant-loop-places : goal.invariant-loop-places
invariant-loop-places l = record {
  same : (x : ℕ) → standing_at l.places.items x ≡ standing_at l.initial.places.items x;
}

abbrev pub decreases-loop-places : goal.decreases-loop-places
decreases-loop-places l = l.at + 1 - vec_len l.places
