use Rattle.std.proofs.Common.{◌≤◌, [], length}
use Rattle.md_checker.proofs.Twins.{AreTwins}
use Rattle.md_checker.proofs.node_fit.are_twins.Given as goal

abbrev pub invariant-loop-at : goal.invariant-loop-at
invariant-loop-at g l = record {
  some : 1 ≤ l.at;
  within : l.at ≤ length l.heads;
  twins : AreTwins (g.G.TextGraph.view l.graph).colours ((g.G.TextGraph.view l.graph).puts l.kind []) l.heads l.fn.live l.at l.live;
}
