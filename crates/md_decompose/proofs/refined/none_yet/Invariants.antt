use Rattle.std.proofs.Common.{◌≡◌, ◌≤◌, None, replicate, vec_capacity}
use Rattle.md_decompose.proofs.refined.none_yet.Given as goal

abbrev pub invariant-loop : goal.invariant-loop
invariant-loop g l = (l.sets.items ≡ replicate l.counter None) × (l.count ≤ vec_capacity l.sets)
