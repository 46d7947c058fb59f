use Rattle.std.proofs.Common.{ℕ, ◌<◌, ◌≤◌, length}
use Rattle.md_decompose.specs.Chains.{step_at}
use Rattle.md_decompose.proofs.nested_modules.count_within.Given as goal

abbrev pub invariant-loop-count : goal.invariant-loop-count
invariant-loop-count l = record {
  known : l.count ≤ length l.steps;
  beyond : (k : ℕ) → l.count ≤ k → k < length l.steps → l.most ≤ (step_at l.steps k).to;
}

abbrev pub decreases-loop-count : goal.decreases-loop-count
decreases-loop-count l = l.count
