use Rattle.md_graph.specs.PlainGraph.{adjacent}
use Rattle.md_decompose.proofs.Joining.{weights}
use Rattle.md_decompose.specs.Turns.{sets_of}
use Rattle.md_decompose.proofs.Turned.{laid_outlines}
use Rattle.md_decompose.proofs.Opened.{IsOpened}
use Rattle.md_decompose.proofs.outline.lay_parts.Given as goal

abbrev pub invariant-loop-next : goal.invariant-loop-next
invariant-loop-next g l = IsOpened laid_outlines (adjacent l.graph) l.names l.parts.items l.waiting.items

abbrev pub decreases-loop-next : goal.decreases-loop-next
decreases-loop-next g l = weights (sets_of l.waiting.items)
