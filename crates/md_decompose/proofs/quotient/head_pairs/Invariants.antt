use Rattle.md_graph.specs.PlainGraph.{adjacent}
use Rattle.md_decompose.proofs.HeadPairs.{IsListingLater}
use Rattle.md_decompose.proofs.quotient.head_pairs.Given as goal

abbrev pub invariant-loop-head : goal.invariant-loop-head
invariant-loop-head g l = IsListingLater (adjacent l.graph) l.heads l.places l.later l.head-iterator l.edges.items
