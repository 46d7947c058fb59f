use Rattle.std.proofs.Common.{◌≡◌, ◌+◌}
use Rattle.md_local.proofs.part.decompose_part.Given as goal

abbrev pub invariant-loop : goal.invariant-loop
invariant-loop g l = l.work ≡ l.initial.work + l.counter
