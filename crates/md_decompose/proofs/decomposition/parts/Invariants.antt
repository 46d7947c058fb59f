use Rattle.std.proofs.Common.{map}
use Rattle.md_graph.specs.PlainGraph.{adjacent}
use Rattle.md_tree.specs.Parts.{plain_part}
use Rattle.md_decompose.proofs.Joining.{weights}
use Rattle.md_decompose.specs.Turns.{sets_of}
use Rattle.md_decompose.proofs.Waiting.{laid_parts}
use Rattle.md_decompose.proofs.Opened.{IsOpened}
use Rattle.md_decompose.proofs.decomposition.parts.Given as goal

abbrev pub invariant-loop-next : goal.invariant-loop-next
invariant-loop-next g l = IsOpened laid_parts (adjacent l.graph) l.names (map plain_part l.parts.items) l.waiting.items

abbrev pub decreases-loop-next : goal.decreases-loop-next
decreases-loop-next g l = weights (sets_of l.waiting.items)
