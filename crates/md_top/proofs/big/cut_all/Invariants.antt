use Rattle.std.proofs.Common.{ℕ, ◌≤◌}
use Rattle.md_top.specs.Big.{cuts, RunsTo}
use Rattle.md_top.proofs.big.cut_all.Given as goal

abbrev pub invariant-loop-v : goal.invariant-loop-v
invariant-loop-v l = record {
  progress : (done : ℕ) × RunsTo l.fn.session (cuts l.v) done l.refused l.session;
  few : l.refused ≤ l.v;
  within : l.v ≤ l.size;
}
