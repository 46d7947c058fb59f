use Rattle.std.proofs.Common.{◌+◌, ◌≤◌, vec_len}
use Rattle.std.specs.Vec.{vec_capacity}
use Rattle.md_cotree.specs.Orders.{AreTaken}
use Rattle.md_cotree.proofs.ordering.trees.Given as goal

abbrev pub invariant-loop-stack : goal.invariant-loop-stack
invariant-loop-stack l = record {
  taken : AreTaken l.fn.stack.items l.stack.items l.trees.items;
  low : l.below ≤ vec_len l.stack;
  room : vec_len l.trees + vec_len l.stack ≤ vec_capacity l.trees + l.below;
}

abbrev pub decreases-loop-stack : goal.decreases-loop-stack
decreases-loop-stack l = vec_len l.stack
