use Rattle.std.proofs.Common.{◌≡◌, ◌++◌, map, length}
use Rattle.md_tree.specs.Trees.{row}
use Rattle.md_tree.specs.Parts.{plain_part, parts_of, parts_backward}
use Rattle.md_tree.specs.Plain.{plain}
use Rattle.md_local.proofs.part.parts_of_tree.Given as goal

abbrev pub invariant-loop-next : goal.invariant-loop-next
invariant-loop-next l = map plain_part l.parts.items ++ parts_backward (row (map plain l.waiting.items)) ≡ parts_of (plain l.fn.tree)

abbrev pub decreases-loop-next : goal.decreases-loop-next
decreases-loop-next l = length (parts_backward (row (map plain l.waiting.items)))
