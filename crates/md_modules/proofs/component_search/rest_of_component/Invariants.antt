use Rattle.std.proofs.Common.{◌+◌}
use Rattle.std.specs.FinSet.{len}
use Rattle.md_graph.specs.PlainGraph.{adjacent}
use Rattle.md_modules.specs.Searches.{IsReaching}
use Rattle.md_modules.proofs.component_search.rest_of_component.Given as goal

abbrev pub invariant-loop-w : goal.invariant-loop-w
invariant-loop-w g l = IsReaching (adjacent l.graph) l.within l.value l.x l.left l.todo

abbrev pub decreases-loop-w : goal.decreases-loop-w
decreases-loop-w g l = len l.left + len l.todo
