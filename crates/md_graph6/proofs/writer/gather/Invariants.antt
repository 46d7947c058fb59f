use Rattle.std.proofs.Common.{◌≡◌, ℕ, ◌≤◌, ◌&&◌, nat_lt}
use Rattle.std.specs.FinSet as set
use Rattle.md_graph.specs.NameSet.{ascending}
use Rattle.md_graph6.specs.Written.{nth}
use Rattle.md_graph6.proofs.Listed.{IsAt}
use Rattle.md_graph6.proofs.writer.gather.Given as goal

abbrev pub invariant-loop-u : goal.invariant-loop-u
invariant-loop-u g l = record {
  place : IsAt (ascending l.graph.vertices) l.u-iterator l.i;
  below : l.i ≤ l.j;
  members : (k : ℕ) → set.contains l.column k ≡ (nat_lt k l.i && set.contains l.row (nth l.graph k));
}
