use Rattle.std.specs.FinSet.{difference, len}
use Rattle.md_digraph.specs.PlainDigraph.{has_arc_to}
use Rattle.md_digraph.specs.ArcColours.{between}
use Rattle.md_decompose.proofs.ChildLemmas.{IsHeld}
use Rattle.md_ddecompose.proofs.prime.far_from.Given as goal

abbrev pub invariant-loop-j : goal.invariant-loop-j
invariant-loop-j g l = IsHeld (between (has_arc_to l.graph)) l.set l.v l.last l.held

abbrev pub decreases-loop-j : goal.decreases-loop-j
decreases-loop-j g l = len (difference l.set l.held)
