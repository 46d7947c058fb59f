-- Trees that become the children of a node, one after the other, from the last item of a list to the first.
use Rattle.std.proofs.Common.{◌≡◌, ◌≢◌, ℕ, ◌+◌, ◌<◌, Bool, List, [], ◌∷◌, length, get_or, take, reverse, None, refl, sym, ◌∙◌, ap, subst, arith}
use Rattle.std.proofs.lemmas.List.{take_all, take_more, same_from_push, length-append, reverse-append, length-reverse}
use Rattle.md_lists.specs.Links.{Links, parent_at, IsLive, AreLinks, attached}
use Rattle.md_cotree.specs.PlaceTrees.{PlaceTrees, no_more, then, inner, place_of, roots, FillsLists}
use Rattle.md_cotree.specs.Forests.{row_append}
use Rattle.md_cotree.proofs.Rows.{joined_assoc, joined_none}
use Rattle.md_cotree.proofs.Frames.{attach_parent, attach_child, attach_loose, attach_differ, fits_attached}

-- the children that are left, of all of a node's, are the first i of the items, from the last to the first
pub record IsAttaching (l : Links) (q : ℕ) (k : Bool) (us ts : PlaceTrees) (xs : List ℕ) (i : ℕ) : Type 0 where
  pub done : PlaceTrees
  pub left : PlaceTrees
  pub whole : us ≡ row_append done left
  pub rest : reverse (roots left) ≡ take i xs
  pub fits : FillsLists l (then (inner q k done) (row_append left ts))

pub attach_begin : (l : Links) (q : ℕ) (k : Bool) (us ts : PlaceTrees) (xs : List ℕ) (i : ℕ) → length xs ≡ i → FillsLists l (then (inner q k no_more) (row_append us ts)) → reverse (roots us) ≡ xs → IsAttaching l q k us ts xs i
attach_begin l q k us ts xs i all fits is = record { done = no_more; left = us; whole = refl; rest = is ∙ sym (take_all i xs (omega arith)); fits = fits }

-- what the next child meets
pub record IsNext (l : Links) (q c : ℕ) : Type 0 where
  pub parent : IsLive l q
  pub child : IsLive l c
  pub differ : q ≢ c
  pub loose : parent_at l c ≡ None

-- the first of the children that are left is the last of the items that are left
first_left : (t : ℕ) (left xs : List ℕ) (i : ℕ) → i < length xs → reverse (t ∷ left) ≡ take (i + 1) xs → (reverse left ≡ take i xs) × (t ≡ get_or xs i 0)
first_left t left xs i more e = same_from_push (reverse left) (take i xs) t (get_or xs i 0) (sym (reverse-append (t ∷ []) left) ∙ e ∙ take_more xs i 0 more)

none_left : (xs : List ℕ) (i : ℕ) → i < length xs → [] ≡ take (i + 1) xs → ⊥
none_left xs i more e = let n = ap length (e ∙ take_more xs i 0 more) in let m = length-append (take i xs) (get_or xs i 0 ∷ []) in omega arith

module _ (l : Links) (ok : AreLinks l) (q : ℕ) (k : Bool) (us ts : PlaceTrees) (xs : List ℕ) (i : ℕ) (more : i < length xs) where
  pub attach_next : IsAttaching l q k us ts xs (i + 1) → IsNext l q (get_or xs i 0)
  attach_next is = go is.left is.rest is.fits
    where
      go : (left : PlaceTrees) → reverse (roots left) ≡ take (i + 1) xs → FillsLists l (then (inner q k is.done) (row_append left ts)) → IsNext l q (get_or xs i 0)
      go no_more e fits = absurd (none_left xs i more e)
      go (then t left) e fits =
          subst (IsNext l q) (first_left (place_of t) (roots left) xs i more e).1 (record {
            parent = attach_parent l ok q k is.done (row_append left ts) t fits;
            child = attach_child l ok q k is.done (row_append left ts) t fits;
            differ = attach_differ l ok q k is.done (row_append left ts) t fits;
            loose = attach_loose l ok q k is.done (row_append left ts) t fits;
          })

  pub attach_more : IsAttaching l q k us ts xs (i + 1) → IsAttaching (attached l q (get_or xs i 0)) q k us ts xs i
  attach_more is = go is.left is.whole is.rest is.fits
    where
      go : (left : PlaceTrees) → us ≡ row_append is.done left → reverse (roots left) ≡ take (i + 1) xs → FillsLists l (then (inner q k is.done) (row_append left ts)) → IsAttaching (attached l q (get_or xs i 0)) q k us ts xs i
      go no_more w e fits = absurd (none_left xs i more e)
      go (then t left) w e fits =
          let both = first_left (place_of t) (roots left) xs i more e in
          record {
            done = row_append is.done (then t no_more);
            left = left;
            whole = w ∙ sym (joined_assoc is.done (then t no_more) left);
            rest = both.0;
            fits = subst (λ x. FillsLists (attached l q x) (then (inner q k (row_append is.done (then t no_more))) (row_append left ts))) both.1 (fits_attached l ok q k is.done (row_append left ts) t fits);
          }

pub attach_end : (l : Links) (q : ℕ) (k : Bool) (us ts : PlaceTrees) (xs : List ℕ) (i : ℕ) → i ≡ 0 → IsAttaching l q k us ts xs i → FillsLists l (then (inner q k us) ts)
attach_end l q k us ts xs i none is = go is.left is.whole (is.rest ∙ ap (λ n. take n xs) none) is.fits
  where
    go : (left : PlaceTrees) → us ≡ row_append is.done left → reverse (roots left) ≡ [] → FillsLists l (then (inner q k is.done) (row_append left ts)) → FillsLists l (then (inner q k us) ts)
    go no_more w e fits = subst (λ ds. FillsLists l (then (inner q k ds) ts)) (sym (w ∙ joined_none is.done)) fits
    go (then t left) w e fits = absurd (let n = length-reverse (place_of t ∷ roots left) in let z = ap length e in omega arith)
