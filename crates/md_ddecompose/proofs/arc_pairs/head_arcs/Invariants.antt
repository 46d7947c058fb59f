use Rattle.md_digraph.specs.PlainDigraph.{has_arc_to}
use Rattle.md_decompose.proofs.HeadPairs.{IsListingPairs}
use Rattle.md_dtree.specs.DirectedSpelling.{directed_pairs}
use Rattle.md_ddecompose.specs.Heads.{IsHeadArc}
use Rattle.md_ddecompose.proofs.arc_pairs.head_arcs.Given as goal

abbrev pub invariant-loop-head : goal.invariant-loop-head
invariant-loop-head g l = IsListingPairs directed_pairs (IsHeadArc (has_arc_to l.graph) l.heads) l.heads l.places l.head-iterator l.list.items
