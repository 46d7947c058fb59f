use Rattle.std.proofs.Common.{◌≡◌, ◌*◌, ◌-◌, length}
use Rattle.md_graph.specs.declared.TheConstants.{NAMES}
use Rattle.md_forcing.specs.Sides.{adjacent_on}
use Rattle.md_forcing.proofs.Exploring.{Exploring}
use Rattle.md_forcing.proofs.exploration.explore.Given as goal

abbrev pub invariant-loop-at : goal.invariant-loop-at
invariant-loop-at g l = record {
  explored : Exploring (adjacent_on l.side l.graph) l.fn.first l.fn.explored.seen l.explored.seen l.explored.trail l.at;
  room : length l.explored.seen ≡ length l.fn.explored.seen;
}

abbrev pub decreases-loop-at : goal.decreases-loop-at
decreases-loop-at g l = NAMES * NAMES - l.at
