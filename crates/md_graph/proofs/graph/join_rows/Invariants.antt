use Rattle.std.proofs.Common.{◌≡◌, ℕ, ◌+◌, ◌&&◌, ◌||◌, nat_lt}
use Rattle.std.specs.FinSet as set
use Rattle.md_graph.specs.Rows.{row_of}
use Rattle.md_graph.specs.Blocks.{in_block}
use Rattle.md_graph.proofs.graph.join_rows.Given as goal

abbrev pub invariant-loop-r : goal.invariant-loop-r
invariant-loop-r g l =
    (u v : ℕ) → set.contains (row_of l.rows u) v ≡ (set.contains (row_of l.initial.rows u) v || (nat_lt u (l.from + l.r) && in_block l.block l.from l.first u v))
