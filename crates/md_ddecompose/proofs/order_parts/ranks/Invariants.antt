use Rattle.md_digraph.specs.PlainDigraph.{has_arc_to}
use Rattle.md_ddecompose.proofs.RankLemmas.{AreRankedSoFar}
use Rattle.md_ddecompose.proofs.order_parts.ranks.Given as goal

abbrev pub invariant-loop-name : goal.invariant-loop-name
invariant-loop-name g l = AreRankedSoFar (has_arc_to l.graph) l.set l.ranks.items l.name-iterator
