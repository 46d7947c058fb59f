-- The parts of trees in a row, listed from the last tree to the first.
use Rattle.std.proofs.Common.{◌≡◌, ◌+◌, List, [], ◌∷◌, ◌++◌, sym, ◌∙◌, ap, append_assoc, append-nil}
use Rattle.md_tree.specs.Trees.{PlainTreeOf, row}
use Rattle.md_tree.specs.Parts.{parts_of, parts_backward}

pub backward-append : {K P : Type 0} (xs ys : List (PlainTreeOf K P)) → parts_backward (row (xs ++ ys)) ≡ parts_backward (row ys) ++ parts_backward (row xs)
backward-append [] ys = sym (append-nil (parts_backward (row ys)))
backward-append (x ∷ xs) ys = ap (λ l. l ++ parts_of x) (backward-append xs ys) ∙ append_assoc (parts_backward (row ys)) (parts_backward (row xs)) (parts_of x)
