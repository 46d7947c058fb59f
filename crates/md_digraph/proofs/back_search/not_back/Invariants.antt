use Rattle.std.proofs.Common.{◌+◌}
use Rattle.std.specs.FinSet.{len}
use Rattle.md_modules.proofs.Growth.{IsBackFrom}
use Rattle.md_digraph.specs.PlainDigraph.{has_arc_to}
use Rattle.md_digraph.specs.ArcColours.{between}
use Rattle.md_digraph.proofs.back_search.not_back.Given as goal

abbrev pub invariant-loop-b : goal.invariant-loop-b
invariant-loop-b g l = IsBackFrom (between (has_arc_to l.graph)) l.within l.v l.j l.left l.todo

abbrev pub decreases-loop-b : goal.decreases-loop-b
decreases-loop-b g l = len l.left + len l.todo
