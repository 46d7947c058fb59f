use Rattle.std.proofs.Common.{◌≡◌, ◌++◌, length}
use Rattle.md_tree.specs.Plain.{plain}
use Rattle.md_outline.specs.Outlines.{outline_of}
use Rattle.md_outline.specs.OutlineParts.{waiting_outline}
use Rattle.md_outline.proofs.outline_parts.tree_outline.Given as goal

abbrev pub invariant-loop-node : goal.invariant-loop-node
invariant-loop-node l = l.parts.items ++ waiting_outline l.waiting.items ≡ outline_of (plain l.tree)

abbrev pub decreases-loop-node : goal.decreases-loop-node
decreases-loop-node l = length (waiting_outline l.waiting.items)
