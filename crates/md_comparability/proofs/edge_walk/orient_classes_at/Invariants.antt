use Rattle.std.proofs.Common.{◌≡◌, length}
use Rattle.md_forcing.specs.Sides.{adjacent_on}
use Rattle.md_comparability.proofs.Near.{IsRow}
use Rattle.md_comparability.proofs.edge_walk.orient_classes_at.Given as goal

abbrev pub invariant-loop-v : goal.invariant-loop-v
invariant-loop-v g l = record {
  row : IsRow (adjacent_on l.side l.graph) l.u l.explored.seen l.v-iterator;
  room : length l.explored.seen ≡ length l.fn.explored.seen;
}
