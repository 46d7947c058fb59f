-- The parts of a tree, and those of the trees on a stack while they are read; the parts of trees over places.
use Rattle.std.proofs.Common.{◌≡◌, ◌-◌, List, [], ◌∷◌, ◌++◌, length, take, drop, refl, sym, ◌∙◌, ap, arith, append-nil, length-append, length-drop}
use Rattle.std.proofs.lemmas.List.{take-append-drop}
use Rattle.md_tree.specs.Trees.{PlainTree, leaf, node, count, row}
use Rattle.md_tree.specs.Parts.{PlainPart, name, inner as inner_part, parts_of, parts_backward}
use Rattle.md_tree.specs.Stacks.{with_part, HasChildrenOf}
use Rattle.md_tree.proofs.Folding.{count_row, folded, Finds, IsFolding, fold_begin, fold_end}
use Rattle.md_tree.proofs.Listing.{backward-append}
use Rattle.md_cotree.specs.PlaceTrees.{PlaceTree, tip, inner, PlaceTrees, no_more, then, row_length, node_count, node_counts, shape, shapes}

-- ---- parts

parts_put : (p : PlainPart) (zs : List PlainTree) → HasChildrenOf p zs → parts_backward (row (with_part p zs)) ≡ p ∷ parts_backward (row zs)
parts_put (name v) zs has = backward-append zs (leaf v ∷ [])
parts_put (inner_part k n qs) zs has =
    let m = length zs - n in
    let counted : count (row (drop (length zs - n) zs)) ≡ n = count_row (drop (length zs - n) zs) ∙ omega (arith, length-drop (length zs - n) zs) in
    backward-append (take (length zs - n) zs) (node k (row (drop (length zs - n) zs)) qs ∷ [])
    ∙ ap (λ i. inner_part k i qs ∷ (parts_backward (row (drop (length zs - n) zs)) ++ parts_backward (row (take (length zs - n) zs)))) counted
    ∙ ap (λ l. inner_part k n qs ∷ l) (sym (backward-append (take (length zs - n) zs) (drop (length zs - n) zs)) ∙ ap (λ l. parts_backward (row l)) (take-append-drop (length zs - n) zs))

rebuilt : (ps : List PlainPart) (zs : List PlainTree) → Finds ps zs → parts_backward (row (folded ps zs)) ≡ ps ++ parts_backward (row zs)
rebuilt [] zs find = refl
rebuilt (p ∷ ps) zs find = parts_put p (folded ps zs) find.1 ∙ ap (λ l. p ∷ l) (rebuilt ps zs find.0)

-- the parts that are left, and those of the trees on the stack
pub all_parts : (t : PlainTree) (ps : List PlainPart) (zs : List PlainTree) → IsFolding (parts_of t) ps zs → ps ++ parts_backward (row zs) ≡ parts_of t
all_parts t ps zs is =
    sym (rebuilt ps zs is.finds) ∙ ap (λ l. parts_backward (row l)) is.goes_on
    ∙ rebuilt (parts_of t) [] (fold_begin (parts_of t) t refl).finds ∙ append-nil (parts_of t)

-- ---- the trees and their parts

mutual
  pub node_parts : (t : PlaceTree) → node_count t ≡ length (parts_of (shape t))
  node_parts (tip p v) = refl
  node_parts (inner p k ts) = let rest = nodes_parts ts in omega arith

  nodes_parts : (ts : PlaceTrees) → node_counts ts ≡ length (parts_backward (shapes ts))
  nodes_parts no_more = refl
  nodes_parts (then t ts) =
      let first = node_parts t in
      let rest = nodes_parts ts in
      let e = length-append (parts_backward (shapes ts)) (parts_of (shape t)) in
      omega arith

-- ---- at the end

pub one_tree : (t : PlainTree) (zs : List PlainTree) → IsFolding (parts_of t) [] zs → zs ≡ t ∷ []
one_tree t zs is = fold_end (parts_of t) [] zs is refl t refl

pub count_shapes : (ts : PlaceTrees) → count (shapes ts) ≡ row_length ts
count_shapes no_more = refl
count_shapes (then t ts) = let rest = count_shapes ts in omega arith
