-- The nodes of a kept tree are the live places, so their number is that of all places without the free ones.
use Rattle.std.proofs.Common.{◌≡◌, ℕ, zero, suc, ◌+◌, ◌<◌, ◌≤◌, cond, ◌==◌, List, [], ◌∷◌, length, get_or, Option, Some, None, is_some, is_none, refl, sym, ◌∙◌, ap, subst, inl, inr, arith}
use Rattle.std.proofs.lemmas.Bool.{cases_eq, cases_lt, eq-eqb, ne_eqb}
use Rattle.std.proofs.lemmas.List.{get_or_past}
use Rattle.std.proofs.lemmas.List.Sums.{sum_by-cons}
use Rattle.std.specs.List.{count_by}
use Rattle.md_lists.specs.declared.kinds.PlaceKind.{PlaceKind}
use Rattle.md_lists.specs.declared.TheConstants.{PLACES}
use Rattle.md_lists.specs.Links.{Links, alive, spare_count, AreLinks}
use Rattle.md_cotree.specs.PlaceTrees.{PlaceTree, tip, inner, PlaceTrees, no_more, then, times_in, times_among, node_count, node_counts, FillsLists}

-- the sum of f below n
unfoldable sum_to : ℕ → (ℕ → ℕ) → ℕ
sum_to zero f = 0
sum_to (suc n) f = sum_to n f + f n

sum_to-add : (n : ℕ) (f g : ℕ → ℕ) → sum_to n (λ p. f p + g p) ≡ sum_to n f + sum_to n g
unfolding sum_to
sum_to-add zero f g = refl
sum_to-add (suc n) f g = let rest = sum_to-add n f g in omega arith

sum_to-same : (n : ℕ) (f g : ℕ → ℕ) → ((p : ℕ) → f p ≡ g p) → sum_to n f ≡ sum_to n g
unfolding sum_to
sum_to-same zero f g same = refl
sum_to-same (suc n) f g same = let rest = sum_to-same n f g same in let last = same n in omega arith

sum_to-front : (n : ℕ) (f : ℕ → ℕ) → sum_to (suc n) f ≡ f 0 + sum_to n (λ p. f (suc p))
unfolding sum_to
sum_to-front zero f = omega arith
sum_to-front (suc n) f = let rest = sum_to-front n f in omega arith

sum_to-zero : (n : ℕ) → sum_to n (λ p. 0) ≡ 0
unfolding sum_to
sum_to-zero zero = refl
sum_to-zero (suc n) = let rest = sum_to-zero n in omega arith

abbrev one_at : ℕ → ℕ → ℕ
one_at q p = cond (q == p) 1 0

sum_to-none : (n q : ℕ) → n ≤ q → sum_to n (one_at q) ≡ 0
unfolding sum_to
sum_to-none zero q low = refl
sum_to-none (suc n) q low =
    let rest = sum_to-none n q (omega arith) in
    let last : one_at q n ≡ 0 = rw (ne_eqb q n (λ e. let h = e in omega arith)) refl in
    omega arith

sum_to-one : (n q : ℕ) → q < n → sum_to n (one_at q) ≡ 1
unfolding sum_to
sum_to-one zero q low = absurd (omega arith)
sum_to-one (suc n) q low =
    elim (cases_eq q n) [
      | inl same ↦
          let rest = sum_to-none n q (omega arith) in
          let last : one_at q n ≡ 1 = rw (eq-eqb q n same) refl in
          omega arith
      | inr other ↦
          let rest = sum_to-one n q (omega arith) in
          let last : one_at q n ≡ 0 = rw (ne_eqb q n other) refl in
          omega arith
    ]

root_within : (n q : ℕ) (rest : ℕ → ℕ) → ((p : ℕ) → n ≤ p → one_at q p + rest p ≡ 0) → q < n
root_within n q rest none =
    elim (cases_lt q n) [
      | inl low ↦ low
      | inr high ↦ absurd (let all = none q high in let one : one_at q q ≡ 1 = rw (eq-eqb q q refl) refl in omega arith)
    ]

mutual
  counted_in : (n : ℕ) (t : PlaceTree) → ((p : ℕ) → n ≤ p → times_in p t ≡ 0) → sum_to n (λ p. times_in p t) ≡ node_count t
  counted_in n (tip q v) none = sum_to-one n q (root_within n q (λ p. 0) (λ p high. let e = none p high in omega arith))
  counted_in n (inner q k ts) none =
      let root = sum_to-one n q (root_within n q (λ p. times_among p ts) none) in
      let rest = counted_among n ts (λ p high. let e = none p high in omega arith) in
      sum_to-add n (one_at q) (λ p. times_among p ts) ∙ (λ i. root i + rest i)

  counted_among : (n : ℕ) (ts : PlaceTrees) → ((p : ℕ) → n ≤ p → times_among p ts ≡ 0) → sum_to n (λ p. times_among p ts) ≡ node_counts ts
  counted_among n no_more none = sum_to-zero n
  counted_among n (then t ts) none =
      let first = counted_in n t (λ p high. let e = none p high in omega arith) in
      let rest = counted_among n ts (λ p high. let e = none p high in omega arith) in
      sum_to-add n (λ p. times_in p t) (λ p. times_among p ts) ∙ (λ i. first i + rest i)

abbrev some_one : Option PlaceKind → ℕ
some_one o = cond (is_some o) 1 0

abbrev pub none_one : Option PlaceKind → ℕ
none_one o = cond (is_none o) 1 0

either_one : (o : Option PlaceKind) → some_one o + none_one o ≡ 1
either_one None = refl
either_one (Some k) = refl

live_and_free : (xs : List (Option PlaceKind)) → sum_to (length xs) (λ p. some_one (get_or xs p None)) + count_by is_none xs ≡ length xs
unfolding sum_to
live_and_free [] = refl
live_and_free (x ∷ xs) =
    let front = sum_to-front (length xs) (λ p. some_one (get_or (x ∷ xs) p None)) in
    let cons = sum_by-cons none_one x xs in
    let rest = live_and_free xs in
    let one = either_one x in
    add_up (sum_to (suc (length xs)) (λ p. some_one (get_or (x ∷ xs) p None))) (some_one x) (sum_to (length xs) (λ p. some_one (get_or xs p None)))
    (count_by is_none (x ∷ xs)) (none_one x) (count_by is_none xs) (length xs) front cons rest one
  where
    add_up : (all first others free here later n : ℕ) → all ≡ first + others → free ≡ here + later → others + later ≡ n → first + here ≡ 1 → all + free ≡ suc n
    add_up all first others free here later n a b c d = omega arith

-- the number of nodes, and the free places, are all places
pub room : (l : Links) (ts : PlaceTrees) → AreLinks l → FillsLists l ts → node_counts ts + spare_count l ≡ PLACES
room l ts ok fits =
    let live : sum_to PLACES (λ p. times_among p ts) ≡ node_counts ts = counted_among PLACES ts none in
    let same : sum_to PLACES (λ p. times_among p ts) ≡ sum_to PLACES (alive l) = sum_to-same PLACES (λ p. times_among p ts) (alive l) fits.each in
    let all : sum_to PLACES (alive l) + spare_count l ≡ PLACES = subst (λ n. sum_to n (alive l) + spare_count l ≡ n) ok.kinds_len (live_and_free l.kinds) in
    ap (λ n. n + spare_count l) (sym live ∙ same) ∙ all
  where
    none : (p : ℕ) → PLACES ≤ p → times_among p ts ≡ 0
    none p high = fits.each p ∙ ap some_one (get_or_past l.kinds p None (let e = ok.kinds_len in omega arith))
