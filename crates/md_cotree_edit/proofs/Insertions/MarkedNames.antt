-- Names that are marked in a tree, and names that aren't.
use Rattle.std.proofs.Common.{◌≡◌, ◌⊎◌, ℕ, zero, suc, ◌+◌, ◌*◌, ◌<◌, ◌≤◌, true, false, refl, inl, inr, arith}
use Rattle.std.proofs.lemmas.Bool.{cases_lt}
use Rattle.md_cotree.specs.PlaceTrees.{PlaceTree, tip, inner, PlaceTrees, no_more, then, leaf_count, leaf_counts, row_length, Alternates, AllAlternate}
use Rattle.md_cotree.proofs.Frames.{hit}
use Rattle.md_cotree_edit.specs.Counts.{name_in, name_row, pair_row, edge_in, edge_row}
use Rattle.md_cotree_edit.specs.Marks.{AreNameMarks, hits_in, hits_row, full_in, full_row}
use Rattle.md_cotree_edit.proofs.Marks.MarksAroundHole.{fulls_low}
use Rattle.md_cotree_edit.proofs.Insertions.LeafEdges.{one_left, one_right}
use Rattle.md_cotree_edit.proofs.Marks.MarkedBelow.{unhit_full}

pub some_product : (a b : ℕ) → 0 < a → 0 < b → 0 < a * b
some_product zero b e f = absurd (omega arith)
some_product (suc a) zero e f = absurd (omega arith)
some_product (suc a) (suc b) e f = omega arith

-- a product that is 0 has a factor that is 0
no_product : (a b : ℕ) → a * b ≡ 0 → (a ≡ 0) ⊎ (b ≡ 0)
no_product zero b e = inl refl
no_product (suc a) zero e = inr refl
no_product (suc a) (suc b) e = absurd (omega arith)

-- what is 1 at most and isn't 1 is 0
pub none_of_low : (n : ℕ) → n ≤ 1 → (n ≡ 1 → ⊥) → n ≡ 0
none_of_low zero low other = refl
none_of_low (suc zero) low other = absurd (other refl)
none_of_low (suc (suc n)) low other = absurd (omega arith)

module _ (m : ℕ → ℕ) (marks : AreNameMarks m) where
  mutual
    pub few_hits : (t : PlaceTree) → hits_in m t ≤ leaf_count t
    few_hits (tip p v) = marks v
    few_hits (inner p k ts) = few_hits_among ts

    few_hits_among : (ts : PlaceTrees) → hits_row m ts ≤ leaf_counts ts
    few_hits_among no_more = omega arith
    few_hits_among (then t ts) = let first = few_hits t in let rest = few_hits_among ts in omega arith

  mutual
    -- a tree with as many hits as leaves is full
    pub full_of_hits : (t : PlaceTree) → hits_in m t ≡ leaf_count t → full_in m t ≡ 1
    full_of_hits (tip p v) all = all
    full_of_hits (inner p k ts) all = fulls_of_hits ts all

    fulls_of_hits : (ts : PlaceTrees) → hits_row m ts ≡ leaf_counts ts → full_row m ts ≡ 1
    fulls_of_hits no_more all = refl
    fulls_of_hits (then t ts) all =
        let low = few_hits t in
        let rest = few_hits_among ts in
        let first : full_in m t ≡ 1 = full_of_hits t (omega arith) in
        let others : full_row m ts ≡ 1 = fulls_of_hits ts (omega arith) in
        λ i. first i * others i

  mutual
    -- a full tree has as many hits as leaves
    pub hits_of_full : (t : PlaceTree) → full_in m t ≡ 1 → hits_in m t ≡ leaf_count t
    hits_of_full (tip p v) full = full
    hits_of_full (inner p k ts) full = hits_of_fulls ts full

    hits_of_fulls : (ts : PlaceTrees) → full_row m ts ≡ 1 → hits_row m ts ≡ leaf_counts ts
    hits_of_fulls no_more full = refl
    hits_of_fulls (then t ts) full =
        let first = hits_of_full t (one_left (full_in m t) (full_row m ts) full) in
        let rest = hits_of_fulls ts (one_right (full_in m t) (full_row m ts) full) in
        omega arith

  mutual
    -- a tree that isn't full has a name that isn't marked
    pub unmarked_name : (t : PlaceTree) → full_in m t ≡ 0 → (z : ℕ) × (0 < name_in z t) × (m z ≡ 0)
    unmarked_name (tip p v) none = (v, (let h = hit v v refl in omega arith), none)
    unmarked_name (inner p k ts) none = unmarked_among ts none

    pub unmarked_among : (ts : PlaceTrees) → full_row m ts ≡ 0 → (z : ℕ) × (0 < name_row z ts) × (m z ≡ 0)
    unmarked_among no_more none = absurd (omega arith)
    unmarked_among (then t ts) none =
        elim (no_product (full_in m t) (full_row m ts) none) [
          | inl here ↦ let z = unmarked_name t here in (z.0, (let some = z.1 in omega arith), z.2)
          | inr rest ↦ let z = unmarked_among ts rest in (z.0, (let some = z.1 in omega arith), z.2)
        ]

  mutual
    -- a tree with a hit has a name that is marked
    pub marked_name : (t : PlaceTree) → 0 < hits_in m t → (a : ℕ) × (0 < name_in a t) × (m a ≡ 1)
    marked_name (tip p v) some = (v, (let h = hit v v refl in omega arith), let low = marks v in omega arith)
    marked_name (inner p k ts) some = marked_among ts some

    pub marked_among : (ts : PlaceTrees) → 0 < hits_row m ts → (a : ℕ) × (0 < name_row a ts) × (m a ≡ 1)
    marked_among no_more some = absurd (omega arith)
    marked_among (then t ts) some =
        elim (cases_lt 0 (hits_in m t)) [
          | inl here ↦ let a = marked_name t here in (a.0, (let some = a.1 in omega arith), a.2)
          | inr none ↦ let a = marked_among ts (omega arith) in (a.0, (let some = a.1 in omega arith), a.2)
        ]

  mutual
    -- a full tree has a hit
    pub full_hits : (t : PlaceTree) → Alternates t → full_in m t ≡ 1 → 0 < hits_in m t
    full_hits (tip p v) is full = omega arith
    full_hits (inner p k ts) is full = fulls_hit ts is.2 (let two = is.0 in omega arith) full

    pub fulls_hit : (ts : PlaceTrees) → AllAlternate ts → 0 < row_length ts → full_row m ts ≡ 1 → 0 < hits_row m ts
    fulls_hit no_more is some full = absurd (omega arith)
    fulls_hit (then t ts) is some full =
        let first = full_hits t is.0 (one_left (full_in m t) (full_row m ts) full) in
        omega arith

  -- of trees that aren't all full, and have a hit, two have a marked name and one that isn't
  pub two_names : (ts : PlaceTrees) → AllAlternate ts → 2 ≤ row_length ts → 0 < hits_row m ts → full_row m ts ≡ 0 → (a : ℕ) × (z : ℕ) × (m a ≡ 1) × (m z ≡ 0) × (0 < pair_row a z ts)
  two_names no_more is two some none = absurd (omega arith)
  two_names (then t ts) is two some none =
      elim (cases_lt 0 (hits_in m t)) [
        | inl here ↦
            let a = marked_name t here in
            elim (no_product (full_in m t) (full_row m ts) none) [
              | inl first ↦
                  let z = unmarked_name t first in
                  elim (cases_lt 0 (hits_row m ts)) [
                    | inl more ↦ let b = marked_among ts more in turned b.0 z.0 b.2 z.2 (some_product (name_in z.0 t) (name_row b.0 ts) z.1 b.1)
                    | inr not ↦
                        let y = unmarked_among ts (no_hits ts is.1 (omega arith) (omega arith)) in
                        straight a.0 y.0 a.2 y.2 (some_product (name_in a.0 t) (name_row y.0 ts) a.1 y.1)
                  ]
              | inr rest ↦ let z = unmarked_among ts rest in straight a.0 z.0 a.2 z.2 (some_product (name_in a.0 t) (name_row z.0 ts) a.1 z.1)
            ]
        | inr not ↦
            let z = unmarked_name t (unhit_full m t is.0 (omega arith)) in
            let b = marked_among ts (omega arith) in
            turned b.0 z.0 b.2 z.2 (some_product (name_in z.0 t) (name_row b.0 ts) z.1 b.1)
      ]
    where
      no_hits : (ts : PlaceTrees) → AllAlternate ts → 0 < row_length ts → hits_row m ts ≡ 0 → full_row m ts ≡ 0
      no_hits ts is long e = none_of_low (full_row m ts) (fulls_low m marks ts) (λ full. let some = fulls_hit ts is long full in omega arith)

      straight : (a z : ℕ) → m a ≡ 1 → m z ≡ 0 → 0 < name_in a t * name_row z ts → (a : ℕ) × (z : ℕ) × (m a ≡ 1) × (m z ≡ 0) × (0 < pair_row a z (then t ts))
      straight a z e f low = (a, z, e, f, omega arith)

      turned : (a z : ℕ) → m a ≡ 1 → m z ≡ 0 → 0 < name_in z t * name_row a ts → (a : ℕ) × (z : ℕ) × (m a ≡ 1) × (m z ≡ 0) × (0 < pair_row a z (then t ts))
      turned a z e f low = (a, z, e, f, omega arith)

mutual
  -- pairs in one tree and in two are pairs of names
  pub edge_low : (x y : ℕ) (t : PlaceTree) → edge_in x y t ≤ name_in x t * name_in y t
  edge_low x y (tip p v) = omega arith
  edge_low x y (inner p true ts) = let low = edges_low x y ts in omega arith
  edge_low x y (inner p false ts) = let low = edges_low x y ts in omega arith

  pub edges_low : (x y : ℕ) (ts : PlaceTrees) → edge_row x y ts + pair_row x y ts ≤ name_row x ts * name_row y ts
  edges_low x y no_more = omega arith
  edges_low x y (then t ts) = let first = edge_low x y t in let rest = edges_low x y ts in omega arith
