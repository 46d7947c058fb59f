use Rattle.std.proofs.Common.{◌≡◌, map, vec_len}
use Rattle.md_tree.specs.Parts.{plain_part, parts_of}
use Rattle.md_tree.specs.Plain.{plain}
use Rattle.md_tree.specs.Trees.{PlainTree}
use Rattle.md_tree.specs.WellFormed.{IsCanonicalTree}
use Rattle.md_local.specs.Substitution.{standing_at}
use Rattle.md_local.proofs.PutTrees.{IsPutting}
use Rattle.md_local.proofs.hanging.put_together.Given as goal

abbrev pub invariant-loop-part : goal.invariant-loop-part
invariant-loop-part l =
    (t : PlainTree) → IsCanonicalTree t → map plain_part l.fn.parts.items ≡ parts_of t →
    IsPutting (standing_at l.fn.places.items) (standing_at l.places.items) t (map plain_part l.parts.items) (map plain l.stack.items)

abbrev pub decreases-loop-part : goal.decreases-loop-part
decreases-loop-part l = vec_len l.parts
