-- The list of the arcs with a property, in ascending order.
use Rattle.std.proofs.Common.{◌≡◌, ◌↔◌, ℕ, zero, suc, ◌<◌, List, [], ◌∷◌, ◌++◌, refl, sym, ◌∙◌, ap, subst, inl, inr, arith}
use Rattle.std.proofs.lemmas.Bool.{cases_lt}
use Rattle.md_graph.proofs.Search.{Decided}
use Rattle.md_forcing.specs.declared.arc.Arc.{Arc}
use Rattle.md_forcing.specs.Lists.{Holds}
use Rattle.md_forcing.specs.Forcing.{arc}
use Rattle.md_forcing.proofs.ListLemmas.{holds_left, holds_right, of_append}
use Rattle.md_comparability.specs.Chains.{Precedes}
use Rattle.md_comparability.specs.Orientations.{AreAscending}

abbrev pub Comes : Arc → Arc → Type 0
Comes a b = Precedes a.tail a.head b.tail b.head

pub ascending_append : (l k : List Arc) → AreAscending l → AreAscending k → ((a b : Arc) → Holds l a → Holds k b → Comes a b) → AreAscending (l ++ k)
ascending_append [] k up up_too before = up_too
ascending_append (a ∷ l) k up up_too before = (
  λ b h. elim (of_append l k b h) [ inl in_l ↦ up.0 b in_l | inr in_k ↦ before a b (inl refl) in_k ],
  ascending_append l k up.1 up_too (λ x y h i. before x y (inr h) i),
)

module _ (P : Arc → Type 0) (decided : (a : Arc) → Decided (P a)) where
  one_of : {Q : Type 0} → Decided Q → Arc → List Arc
  one_of (inl q) a = a ∷ []
  one_of (inr n) a = []

  -- the arcs from u to heads below m with the property
  row_list : ℕ → ℕ → List Arc
  row_list u zero = []
  row_list u (suc m) = row_list u m ++ one_of (decided (arc u m)) (arc u m)

  -- those with tails below k
  whole_list : ℕ → ℕ → List Arc
  whole_list zero m = []
  whole_list (suc k) m = whole_list k m ++ row_list k m

  -- an arc of a row has the property, its tail and a head below m
  record IsInRow (u m : ℕ) (b : Arc) : Type 0 where
    tail : b.tail ≡ u
    head : b.head < m
    has : P b

  of_one : (a b : Arc) (d : Decided (P a)) → Holds (one_of d a) b → (b ≡ a) × P b
  unfolding one_of
  of_one a b (inl p) (inl same) = (same, subst P (sym same) p)
  of_one a b (inl p) (inr none) = absurd none
  of_one a b (inr n) h = absurd h

  in_one : (a : Arc) (d : Decided (P a)) → P a → Holds (one_of d a) a
  unfolding one_of
  in_one a (inl p) q = inl refl
  in_one a (inr n) q = absurd (n q)

  of_row : (u m : ℕ) (b : Arc) → Holds (row_list u m) b → IsInRow u m b
  unfolding row_list
  of_row u zero b h = absurd h
  of_row u (suc m) b h =
      elim (of_append (row_list u m) _ b h) [
        | inl l ↦ let before = of_row u m b l in let less = before.head in record { tail = before.tail; head = omega arith; has = before.has }
        | inr r ↦
            let last = of_one (arc u m) b (decided (arc u m)) r in
            let head_is : b.head ≡ m = ap (λ x. x.head) last.0 in
            record { tail = ap (λ x. x.tail) last.0; head = omega arith; has = last.1 }
      ]

  in_row : (u m v : ℕ) → v < m → P (arc u v) → Holds (row_list u m) (arc u v)
  unfolding row_list
  in_row u zero v l p = absurd (omega arith)
  in_row u (suc m) v l p =
      elim (cases_lt v m) [
        | inl less ↦ holds_left (row_list u m) _ (arc u v) (in_row u m v less p)
        | inr above ↦
            let same : v ≡ m = omega arith in
            holds_right (row_list u m) _ (arc u v) (subst (λ k. Holds (one_of (decided (arc u m)) (arc u m)) (arc u k)) (sym same) (in_one (arc u m) (decided (arc u m)) (subst (λ k. P (arc u k)) same p)))
      ]

  one_ascends : (a : Arc) (d : Decided (P a)) → AreAscending (one_of d a)
  unfolding one_of
  one_ascends a (inl p) = (λ b h. absurd h, tt)
  one_ascends a (inr n) = tt

  row_ascends : (u m : ℕ) → AreAscending (row_list u m)
  unfolding row_list
  row_ascends u zero = tt
  row_ascends u (suc m) =
      ascending_append (row_list u m) _ (row_ascends u m) (one_ascends (arc u m) (decided (arc u m))) (λ a b h i.
      let first = of_row u m a h in
      let last = of_one (arc u m) b (decided (arc u m)) i in
      let less = first.head in
      let head_is : b.head ≡ m = ap (λ x. x.head) last.0 in
      inr (first.tail ∙ sym (ap (λ x. x.tail) last.0), omega arith))

  of_whole : (k m : ℕ) (b : Arc) → Holds (whole_list k m) b → (b.tail < k) × P b
  unfolding whole_list
  of_whole zero m b h = absurd h
  of_whole (suc k) m b h =
      elim (of_append (whole_list k m) (row_list k m) b h) [
        | inl l ↦ let before = of_whole k m b l in let less = before.0 in (omega arith, before.1)
        | inr r ↦ let row = of_row k m b r in let tail_is = row.tail in (omega arith, row.has)
      ]

  in_whole : (k m u v : ℕ) → u < k → v < m → P (arc u v) → Holds (whole_list k m) (arc u v)
  unfolding whole_list
  in_whole zero m u v l h p = absurd (omega arith)
  in_whole (suc k) m u v l h p =
      elim (cases_lt u k) [
        | inl less ↦ holds_left (whole_list k m) (row_list k m) (arc u v) (in_whole k m u v less h p)
        | inr above ↦
            let same : u ≡ k = omega arith in
            holds_right (whole_list k m) (row_list k m) (arc u v) (subst (λ x. Holds (row_list x m) (arc u v)) same (in_row u m v h p))
      ]

  whole_ascends : (k m : ℕ) → AreAscending (whole_list k m)
  unfolding whole_list
  whole_ascends zero m = tt
  whole_ascends (suc k) m =
      ascending_append (whole_list k m) (row_list k m) (whole_ascends k m) (row_ascends k m) (λ a b h i.
      let less = (of_whole k m a h).0 in
      let tail_is = (of_row k m b i).tail in
      inl (omega arith))

  pub has_list : (n : ℕ) → ((a : Arc) → P a → (a.tail < n) × (a.head < n)) → (list : List Arc) × ((a : Arc) → Holds list a ↔ P a) × AreAscending list
  has_list n below = (
    whole_list n n,
    λ a. (λ h. (of_whole n n a h).1, λ p. in_whole n n a.tail a.head (below a p).0 (below a p).1 p),
    whole_ascends n n,
  )
