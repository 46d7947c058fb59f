use Rattle.std.proofs.Common.{ℕ, ◌≤◌}
use Rattle.md_top.specs.Big.{deletions, RunsTo}
use Rattle.md_top.proofs.big.delete_all.Given as goal

abbrev pub invariant-loop-v : goal.invariant-loop-v
invariant-loop-v l = record {
  progress : (done : ℕ) × (undone : ℕ) × RunsTo l.fn.session (deletions l.v) done undone l.session;
  within : l.v ≤ l.size;
}
