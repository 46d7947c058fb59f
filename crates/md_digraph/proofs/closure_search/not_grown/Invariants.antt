use Rattle.std.proofs.Common.{◌+◌}
use Rattle.std.specs.FinSet.{len}
use Rattle.md_modules.proofs.Growth.{IsGrowing}
use Rattle.md_digraph.specs.PlainDigraph.{has_arc_to}
use Rattle.md_digraph.specs.ArcColours.{between}
use Rattle.md_digraph.proofs.closure_search.not_grown.Given as goal

abbrev pub invariant-loop-w : goal.invariant-loop-w
invariant-loop-w g l = IsGrowing (between (has_arc_to l.graph)) l.within l.v l.fn.left l.left l.todo

abbrev pub decreases-loop-w : goal.decreases-loop-w
decreases-loop-w g l = len l.left + len l.todo
