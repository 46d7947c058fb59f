-- Marked places of a tree have marked names below them, and places with marked names below them are marked.
use Rattle.std.proofs.Common.{◌≡◌, ◌⊎◌, ℕ, ◌+◌, ◌-◌, ◌*◌, ◌<◌, ◌≤◌, min, refl, ◌∙◌, ap, inl, inr, arith}
use Rattle.std.proofs.Math.Nat.{mul-le-mul_left}
use Rattle.std.proofs.lemmas.Bool.{cases_lt}
use Rattle.md_lists.specs.Links.{Links, tally_at, note_at}
use Rattle.md_cotree.specs.PlaceTrees.{PlaceTree, tip, inner, PlaceTrees, no_more, then, place_of, Alternates, AllAlternate}
use Rattle.md_cotree_edit.specs.Contexts.{AreTreesKept}
use Rattle.md_cotree_edit.specs.Marks.{TellMarks, AreNameMarks, hits_in, hits_row, full_in, full_row, full_count, mixed_count, walked_count}
use Rattle.md_cotree_edit.proofs.Trees.CountsAtNode.{Sub, SubRow, sub_refl, sub_trans, alternates_sub, node_tally, node_note, tip_tally, tip_note}
use Rattle.md_cotree_edit.proofs.Marks.MarksAroundHole.{full_low}

-- ---- numbers that are 0 or 1

pub bit : (a : ℕ) → a ≤ 1 → (a ≡ 0) ⊎ (a ≡ 1)
bit a low = elim (cases_lt 0 a) [ inl some ↦ inr (omega arith) | inr none ↦ inl (omega arith) ]

pub left_zero : (a b : ℕ) → a ≡ 0 → a * b ≡ 0
left_zero a b e = ap (λ z. z * b) e ∙ omega arith

pub right_zero : (a b : ℕ) → b ≡ 0 → a * b ≡ 0
right_zero a b e = ap (λ z. a * z) e ∙ omega arith

product_one : (a b : ℕ) → a ≤ 1 → a * b ≡ 1 → (a ≡ 1) × (b ≡ 1)
product_one a b la one =
    elim (bit a la) [
      | inl e ↦ absurd (let z = left_zero a b e in omega arith)
      | inr e ↦ (e, (let z : a * b ≡ 1 * b = ap (λ z. z * b) e in omega arith))
    ]

module _ (m : ℕ → ℕ) (marks : AreNameMarks m) where
  -- no child of a full node is walked over and isn't full
  pub full_walked : (w : ℕ → ℕ) (ts : PlaceTrees) → full_row m ts ≡ 1 → walked_count m w ts ≡ 0
  full_walked w no_more full = refl
  full_walked w (then t ts) full =
      let both = product_one (full_in m t) (full_row m ts) (full_low m marks t) full in
      let here : (1 - full_in m t) * w (place_of t) ≡ 0 = left_zero (1 - full_in m t) (w (place_of t)) (let e = both.0 in omega arith) in
      let rest = full_walked w ts both.1 in
      omega arith

  -- a full row has no mixed tree, and a row without marked names neither
  pub full_mixed : (ts : PlaceTrees) → full_row m ts ≡ 1 → mixed_count m ts ≡ 0
  full_mixed no_more full = refl
  full_mixed (then t ts) full =
      let both = product_one (full_in m t) (full_row m ts) (full_low m marks t) full in
      let here : (1 - full_in m t) * min 1 (hits_in m t) ≡ 0 = left_zero (1 - full_in m t) (min 1 (hits_in m t)) (let e = both.0 in omega arith) in
      let rest = full_mixed ts both.1 in
      omega arith

  pub unhit_mixed : (ts : PlaceTrees) → hits_row m ts ≡ 0 → mixed_count m ts ≡ 0
  unhit_mixed no_more none = refl
  unhit_mixed (then t ts) none =
      let here : (1 - full_in m t) * min 1 (hits_in m t) ≡ 0 = right_zero (1 - full_in m t) (min 1 (hits_in m t)) (omega arith) in
      let rest = unhit_mixed ts (omega arith) in
      omega arith

-- ---- trees without marked names

module _ (m : ℕ → ℕ) where
  mutual
    pub unhit_full : (t : PlaceTree) → Alternates t → hits_in m t ≡ 0 → full_in m t ≡ 0
    unhit_full (tip p v) is none = none
    unhit_full (inner p k no_more) is none = absurd (let low = is.0 in omega arith)
    unhit_full (inner p k (then t ts)) is none = left_zero (full_in m t) (full_row m ts) (unhit_full t is.2.0 (omega arith))

  pub unhit_count : (ts : PlaceTrees) → AllAlternate ts → hits_row m ts ≡ 0 → full_count m ts ≡ 0
  unhit_count no_more is none = refl
  unhit_count (then t ts) is none =
      let first = unhit_full t is.0 (omega arith) in
      let rest = unhit_count ts is.1 (omega arith) in
      omega arith

-- the marks that lists have of the root of a tree
abbrev pub root_mark : (ℕ → ℕ) → (ℕ → ℕ) → PlaceTree → ℕ
root_mark m w (tip p v) = m v
root_mark m w (inner p k ts) = full_count m ts + (full_row m ts + 2 * walked_count m w ts)

-- marks of all places of a tree, by their place
abbrev pub IsShown : (ℕ → ℕ) → (ℕ → ℕ) → (ℕ → ℕ) → PlaceTree → Type 0
IsShown f m w t = (s : PlaceTree) → Sub s t → f (place_of s) ≡ root_mark m w s

abbrev pub RowShown : (ℕ → ℕ) → (ℕ → ℕ) → (ℕ → ℕ) → PlaceTrees → Type 0
RowShown f m w ts = (s : PlaceTree) → SubRow s ts → f (place_of s) ≡ root_mark m w s

module _ (f m w : ℕ → ℕ) (low : (p : ℕ) → w p ≤ f p) where
  mutual
    -- a place of a tree without marked names has no mark
    pub unhit_mark : (t : PlaceTree) → IsShown f m w t → Alternates t → hits_in m t ≡ 0 → f (place_of t) ≡ 0
    unhit_mark (tip p v) shown is none = let e = shown (tip p v) refl in omega arith
    unhit_mark (inner p k ts) shown is none =
        let e = shown (inner p k ts) (inl refl) in
        let count = unhit_count m ts is.2 none in
        let full : full_row m ts ≡ 0 = unhit_full m (inner p k ts) is none in
        let walks = unhit_walks ts (λ s sub. shown s (inr sub)) is.2 none in
        omega arith

    pub unhit_walks : (ts : PlaceTrees) → RowShown f m w ts → AllAlternate ts → hits_row m ts ≡ 0 → walked_count m w ts ≡ 0
    unhit_walks no_more shown is none = refl
    unhit_walks (then t ts) shown is none =
        let mark = unhit_mark t (λ s sub. shown s (inl sub)) is.0 (omega arith) in
        let no_walk = low (place_of t) in
        let here : (1 - full_in m t) * w (place_of t) ≡ 0 = right_zero (1 - full_in m t) (w (place_of t)) (omega arith) in
        let rest = unhit_walks ts (λ s sub. shown s (inr sub)) is.1 (omega arith) in
        omega arith

module _ (f m w : ℕ → ℕ) (marks : AreNameMarks m) (high : (p : ℕ) → 0 < f p → 0 < w p) where
  mutual
    -- a place with a marked name below has a mark
    pub hit_mark : (t : PlaceTree) → IsShown f m w t → 0 < hits_in m t → 0 < f (place_of t)
    hit_mark (tip p v) shown some = let e = shown (tip p v) refl in omega arith
    hit_mark (inner p k ts) shown some =
        let e = shown (inner p k ts) (inl refl) in
        let low = hit_row ts (λ s sub. shown s (inr sub)) some in
        omega arith

    hit_row : (ts : PlaceTrees) → RowShown f m w ts → 0 < hits_row m ts → 0 < full_count m ts + walked_count m w ts
    hit_row no_more shown some = absurd (omega arith)
    hit_row (then t ts) shown some =
        elim (cases_lt 0 (hits_in m t)) [
          | inl here ↦
              elim (bit (full_in m t) (full_low m marks t)) [
                | inl e ↦
                    let mark = hit_mark t (λ s sub. shown s (inl sub)) here in
                    let walk = high (place_of t) mark in
                    let one : (1 - full_in m t) * w (place_of t) ≡ (1 - 0) * w (place_of t) = ap (λ z. (1 - z) * w (place_of t)) e in
                    omega arith
                | inr e ↦ omega arith
              ]
          | inr none ↦ let rest = hit_row ts (λ s sub. shown s (inr sub)) (omega arith) in omega arith
        ]

-- what is walked over has a marked name
pub walk_hit : (f m w : ℕ → ℕ) → ((p : ℕ) → w p ≤ f p) → (t : PlaceTree) → IsShown f m w t → Alternates t → (v : ℕ → ℕ) → ((p : ℕ) → v p ≤ min 1 (f p)) → (s : PlaceTree) → Sub s t →
    v (place_of s) ≤ min 1 (hits_in m s)
walk_hit f m w low t shown is v each s sub =
    let one = each (place_of s) in
    elim (cases_lt 0 (hits_in m s)) [
      | inl some ↦ omega arith
      | inr none ↦ let mark = unhit_mark f m w low s (λ r at. shown r (sub_trans r s t at sub)) (alternates_sub s t sub is) (omega arith) in omega arith
    ]

-- the lists that tell of a tree have the marks of its places
pub are_shown : (l : Links) (t : PlaceTree) (kept : AreTreesKept l (then t no_more)) (m w : ℕ → ℕ) (told : TellMarks l m w t) → IsShown (λ p. tally_at l p + note_at l p) m w t
are_shown l t kept m w told (tip q v) sub = let a = tip_tally l t kept m w told q v sub in let b = tip_note l t kept m w told q v sub in omega arith
are_shown l t kept m w told (inner q k us) sub = let a = node_tally l t kept m w told q k us sub in let b = node_note l t kept m w told q k us sub in omega arith

-- ---- walks and mixed trees

module _ (m v : ℕ → ℕ) where
  -- what is walked over has a marked name
  pub walks_low : (ts : PlaceTrees) → ((s : PlaceTree) → SubRow s ts → v (place_of s) ≤ min 1 (hits_in m s)) → walked_count m v ts ≤ mixed_count m ts
  walks_low no_more each = omega arith
  walks_low (then t ts) each =
      let here = mul-le-mul_left (1 - full_in m t) (each t (inl (sub_refl t))) in
      let rest = walks_low ts (λ s sub. each s (inr sub)) in
      omega arith

  -- what has a marked name is walked over
  pub walks_high : (ts : PlaceTrees) → ((s : PlaceTree) → SubRow s ts → min 1 (hits_in m s) ≤ v (place_of s)) → mixed_count m ts ≤ walked_count m v ts
  walks_high no_more each = omega arith
  walks_high (then t ts) each =
      let here = mul-le-mul_left (1 - full_in m t) (each t (inl (sub_refl t))) in
      let rest = walks_high ts (λ s sub. each s (inr sub)) in
      omega arith
