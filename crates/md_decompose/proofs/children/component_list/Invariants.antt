use Rattle.std.specs.FinSet.{len}
use Rattle.md_graph.specs.PlainGraph.{adjacent}
use Rattle.md_decompose.proofs.Components.{IsListing}
use Rattle.md_decompose.proofs.children.component_list.Given as goal

abbrev pub invariant-loop-v : goal.invariant-loop-v
invariant-loop-v g l = IsListing (adjacent l.graph) l.set l.value l.rest l.sets.items

abbrev pub decreases-loop-v : goal.decreases-loop-v
decreases-loop-v g l = len l.rest
