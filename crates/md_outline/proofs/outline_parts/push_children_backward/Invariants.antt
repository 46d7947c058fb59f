use Rattle.std.proofs.Common.{◌≡◌, ◌++◌, map, reverse, drop}
use Rattle.md_tree.specs.Plain.{plain, trees_of}
use Rattle.md_tree.specs.Parts.{plain_at}
use Rattle.md_outline.proofs.outline_parts.push_children_backward.Given as goal

abbrev pub invariant-loop-i : goal.invariant-loop-i
invariant-loop-i l = map plain_at l.waiting.items ≡ map plain_at l.fn.waiting.items ++ reverse (map plain (drop l.i (trees_of l.children)))
