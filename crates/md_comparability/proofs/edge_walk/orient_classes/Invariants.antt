use Rattle.std.proofs.Common.{◌≡◌, length}
use Rattle.md_forcing.specs.Sides.{adjacent_on}
use Rattle.md_comparability.specs.Walking.{IsWalked}
use Rattle.md_comparability.proofs.edge_walk.orient_classes.Given as goal

abbrev pub invariant-loop-u : goal.invariant-loop-u
invariant-loop-u g l = record {
  walked : IsWalked (adjacent_on l.side l.graph) l.u l.explored.seen;
  room : length l.explored.seen ≡ length l.initial.explored.seen;
}
