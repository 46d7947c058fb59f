use Rattle.std.proofs.Common.{map}
use Rattle.md_digraph.specs.PlainDigraph.{has_arc_to}
use Rattle.md_tree.specs.Parts.{plain_part}
use Rattle.md_decompose.proofs.Joining.{weights}
use Rattle.md_ddecompose.proofs.OpenSets.{sets_of, IsOpened}
use Rattle.md_ddecompose.proofs.decomposition.parts.Given as goal

abbrev pub invariant-loop-next : goal.invariant-loop-next
invariant-loop-next g l = IsOpened (has_arc_to l.graph) l.graph.vertices (map plain_part l.parts.items) l.waiting.items

abbrev pub decreases-loop-next : goal.decreases-loop-next
decreases-loop-next g l = weights (sets_of l.waiting.items)
