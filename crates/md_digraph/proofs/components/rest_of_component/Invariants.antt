use Rattle.std.proofs.Common.{◌+◌}
use Rattle.std.specs.FinSet.{len}
use Rattle.md_modules.specs.Searches.{IsReaching}
use Rattle.md_digraph.specs.PlainDigraph.{has_arc_to}
use Rattle.md_digraph.specs.ArcColours.{between}
use Rattle.md_digraph.proofs.components.rest_of_component.Given as goal

abbrev pub invariant-loop-w : goal.invariant-loop-w
invariant-loop-w g l = IsReaching (between (has_arc_to l.graph)) l.within (l.both, l.both) l.x l.left l.todo

abbrev pub decreases-loop-w : goal.decreases-loop-w
decreases-loop-w g l = len l.left + len l.todo
