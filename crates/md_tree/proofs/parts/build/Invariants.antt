use Rattle.std.proofs.Common.{map, vec_len}
use Rattle.md_tree.specs.Plain.{plain}
use Rattle.md_tree.specs.Parts.{plain_part}
use Rattle.md_tree.proofs.Folding.{IsFolding}
use Rattle.md_tree.proofs.parts.build.Given as goal

abbrev pub invariant-loop-part : goal.invariant-loop-part
invariant-loop-part g l =
    IsFolding (map plain_part l.fn.parts.items) (map plain_part l.parts.items) (map plain l.stack.items)

abbrev pub decreases-loop-part : goal.decreases-loop-part
decreases-loop-part g l = vec_len l.parts
