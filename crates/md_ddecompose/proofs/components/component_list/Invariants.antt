use Rattle.std.specs.FinSet.{len}
use Rattle.md_digraph.specs.PlainDigraph.{has_arc_to}
use Rattle.md_digraph.specs.ArcColours.{between}
use Rattle.md_decompose.proofs.Components.{IsListing}
use Rattle.md_ddecompose.proofs.components.component_list.Given as goal

abbrev pub invariant-loop-v : goal.invariant-loop-v
invariant-loop-v g l = IsListing (between (has_arc_to l.graph)) l.set (l.both, l.both) l.rest l.sets.items

abbrev pub decreases-loop-v : goal.decreases-loop-v
decreases-loop-v g l = len l.rest
