-- Rows of trees over places, one behind the other.
use Rattle.std.proofs.Common.{◌≡◌, ℕ, zero, suc, ◌+◌, ◌≤◌, ◌∷◌, ◌++◌, length, refl, ap, arith}
use Rattle.md_tree.specs.Trees.{one_more, row}
use Rattle.md_cotree.specs.PlaceTrees.{PlaceTree, tip, inner, PlaceTrees, no_more, then, place_of, roots, times_among, leaves_among, leaf_count, leaf_counts, node_count, node_counts, row_length, shape, shapes}
use Rattle.md_cotree.specs.Forests.{row_append, shape_list}

pub roots-joined : (ts us : PlaceTrees) → roots (row_append ts us) ≡ roots ts ++ roots us
roots-joined no_more us = refl
roots-joined (then t ts) us = ap (λ l. place_of t ∷ l) (roots-joined ts us)

pub shape_list-joined : (ts us : PlaceTrees) → shape_list (row_append ts us) ≡ shape_list ts ++ shape_list us
shape_list-joined no_more us = refl
shape_list-joined (then t ts) us = ap (λ l. shape t ∷ l) (shape_list-joined ts us)

pub times-joined : (p : ℕ) (ts us : PlaceTrees) → times_among p (row_append ts us) ≡ times_among p ts + times_among p us
times-joined p no_more us = omega arith
times-joined p (then t ts) us = let rest = times-joined p ts us in omega arith

pub leaves-joined : (p v : ℕ) (ts us : PlaceTrees) → leaves_among p v (row_append ts us) ≡ leaves_among p v ts + leaves_among p v us
leaves-joined p v no_more us = omega arith
leaves-joined p v (then t ts) us = let rest = leaves-joined p v ts us in omega arith

pub leaf_counts-joined : (ts us : PlaceTrees) → leaf_counts (row_append ts us) ≡ leaf_counts ts + leaf_counts us
leaf_counts-joined no_more us = omega arith
leaf_counts-joined (then t ts) us = let rest = leaf_counts-joined ts us in omega arith

pub joined_assoc : (ts us vs : PlaceTrees) → row_append (row_append ts us) vs ≡ row_append ts (row_append us vs)
joined_assoc no_more us vs = refl
joined_assoc (then t ts) us vs = ap (then t) (joined_assoc ts us vs)

pub joined_none : (ts : PlaceTrees) → row_append ts no_more ≡ ts
joined_none no_more = refl
joined_none (then t ts) = ap (then t) (joined_none ts)

pub row_shapes : (ts : PlaceTrees) → row (shape_list ts) ≡ shapes ts
row_shapes no_more = refl
row_shapes (then t ts) = ap (one_more (shape t)) (row_shapes ts)

pub length_shapes : (ts : PlaceTrees) → length (shape_list ts) ≡ row_length ts
length_shapes no_more = refl
length_shapes (then t ts) = let rest = length_shapes ts in omega arith

pub length_roots : (ts : PlaceTrees) → length (roots ts) ≡ row_length ts
length_roots no_more = refl
length_roots (then t ts) = let rest = length_roots ts in omega arith

-- the first trees of a row
pub record Split (ts : PlaceTrees) (n : ℕ) : Type 0 where
  pub before : PlaceTrees
  pub after : PlaceTrees
  pub whole : ts ≡ row_append before after
  pub count : row_length before ≡ n

pub split_row : (ts : PlaceTrees) (n : ℕ) → n ≤ row_length ts → Split ts n
split_row ts zero few = record { before = no_more; after = ts; whole = refl; count = refl }
split_row no_more (suc n) few = absurd (omega arith)
split_row (then t ts) (suc n) few =
    let rest = split_row ts n (omega arith) in
    record { before = then t rest.before; after = rest.after; whole = ap (then t) rest.whole; count = let e = rest.count in omega arith }

mutual
  pub some_node : (t : PlaceTree) → leaf_count t ≤ node_count t
  some_node (tip p v) = omega arith
  some_node (inner p k ts) = let rest = some_nodes ts in omega arith

  pub some_nodes : (ts : PlaceTrees) → leaf_counts ts ≤ node_counts ts
  some_nodes no_more = omega arith
  some_nodes (then t ts) = let first = some_node t in let rest = some_nodes ts in omega arith
