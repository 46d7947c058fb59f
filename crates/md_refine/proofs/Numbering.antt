-- The positions of places in their order.
use Rattle.std.proofs.Common.{◌≡◌, ◌≢◌, ℕ, zero, suc, ◌+◌, ◌<◌, ◌≤◌, true, cond, ◌==◌, List, [], ◌∷◌, length, get_or, set, Option, Some, refl, sym, ◌∙◌, ap, inl, inr, arith}
use Rattle.std.specs.List.{position_from}
use Rattle.std.proofs.lemmas.Bool.{cases_eq, eq-eqb, ne_eqb, false≢true}
use Rattle.std.proofs.lemmas.Bool.Decides.{nat_tests}
use Rattle.std.proofs.lemmas.List.{get_or-set_same, get_or-set_other}
use Rattle.md_refine.specs.Partitions.{is_in}
use Rattle.md_refine.specs.Slots.{IsPlaceOrder}
use Rattle.md_graph.specs.Linked.{times}
use Rattle.md_refine.proofs.Lists.{in_first, in_later, in_other}
use Rattle.md_refine.proofs.Showing.{in_times}

in_at : (xs : List ℕ) (j : ℕ) → j < length xs → is_in xs (get_or xs j 0) ≡ true
in_at [] j low = absurd (omega arith)
in_at (x ∷ xs) zero low = in_first x xs
in_at (x ∷ xs) (suc j) low = in_later x (get_or xs j 0) xs (in_at xs j (omega arith))

-- what stands once stands at one position
apart_at : (xs : List ℕ) (j k : ℕ) → j < k → k < length xs → times (get_or xs j 0) xs ≤ 1 → get_or xs k 0 ≢ get_or xs j 0
apart_at [] j k less low once e = absurd (omega arith)
apart_at (x ∷ xs) j zero less low once e = absurd (omega arith)
apart_at (x ∷ xs) zero (suc k) less low once e =
    let m : is_in xs x ≡ true = ap (is_in xs) (sym e) ∙ in_at xs k (omega arith) in
    let t = in_times x xs in
    let all : cond true 1 0 + times x xs ≤ 1 = rw (eq-eqb x x refl) at once in
    grind (arith, nat_tests)
apart_at (x ∷ xs) (suc j) (suc k) less low once e = apart_at xs j k (omega arith) (omega arith) (omega arith) e

-- what stands in a list has a first position
found_at : (q k : ℕ) (xs : List ℕ) → is_in xs q ≡ true → (j : ℕ) × (j < length xs) × (get_or xs j 0 ≡ q) × (position_from (λ p. p == q) k xs ≡ Some (k + j))
found_at q k [] m = absurd (false≢true m)
found_at q k (x ∷ xs) m =
    elim (cases_eq x q) [
      | inl here ↦ (0, omega arith, here, rw (eq-eqb x q here) (ap (λ z. Some z) (omega arith)))
      | inr other ↦
          let rest = found_at q (k + 1) xs (sym (in_other x q xs other) ∙ m) in
          later rest.0 rest.1 rest.2 rest.3 other
    ]
  where
    later : (j : ℕ) → j < length xs → get_or xs j 0 ≡ q → position_from (λ p. p == q) (k + 1) xs ≡ Some (k + 1 + j) → x ≢ q → (j : ℕ) × (j < length (x ∷ xs)) × (get_or (x ∷ xs) j 0 ≡ q) × (position_from (λ p. p == q) k (x ∷ xs) ≡ Some (k + j))
    later j low is found other = (suc j, omega arith, is, rw (ne_eqb x q other) (found ∙ ap (λ z. Some z) (let e : k + 1 + j ≡ k + suc j = omega arith in e)))

module _ (nexts : List (Option ℕ)) (first : Option ℕ) (order : List ℕ) (count : ℕ) (is : IsPlaceOrder nexts first order count) where
  pub place_within : (j : ℕ) → j < count → get_or order j 0 < count
  place_within j low =
      let m = in_at order j (let e = is.long in omega arith) in
      let t = in_times (get_or order j 0) order in
      let once = is.once (get_or order j 0) in
      grind (arith, nat_tests)

  pub places_differ : (j k : ℕ) → j < k → k < count → get_or order k 0 ≢ get_or order j 0
  places_differ j k less low =
      let once = is.once (get_or order j 0) in
      apart_at order j k less (let e = is.long in omega arith) (grind (arith, nat_tests))

  -- one more place has its position
  pub position_more : (ps : List ℕ) (i p : ℕ) → length ps ≡ count → i < count → p ≡ get_or order i 0 → ((j : ℕ) → j < i → get_or ps (get_or order j 0) 0 ≡ j) → (j : ℕ) → j < i + 1 → get_or (set ps p i) (get_or order j 0) 0 ≡ j
  position_more ps i p long low here before j below =
      elim (cases_eq j i) [
        | inl same ↦
            let at_p : get_or order j 0 ≡ p = ap (λ z. get_or order z 0) same ∙ sym here in
            let within = place_within i low in
            ap (λ z. get_or (set ps p i) z 0) at_p ∙ get_or-set_same ps p i 0 (omega arith) ∙ sym same
        | inr other ↦
            get_or-set_other ps p (get_or order j 0) i 0 (λ e. places_differ j i (omega arith) low (sym here ∙ sym e))
            ∙ before j (omega arith)
      ]

  -- with all positions, each place has its first one
  pub numbered : (ps : List ℕ) → ((j : ℕ) → j < count → get_or ps (get_or order j 0) 0 ≡ j) → (q : ℕ) → q < count → position_from (λ p. p == q) 0 order ≡ Some (get_or ps q 0)
  numbered ps all q low =
      let t = in_times q order in
      let once = is.once q in
      let m : is_in order q ≡ true = grind (arith, nat_tests) in
      let f = found_at q 0 order m in
      let below = f.1 in
      f.3 ∙ ap (λ z. Some z) ((let e : 0 + f.0 ≡ f.0 = omega arith in e) ∙ sym (all f.0 (let e = is.long in omega arith)) ∙ ap (λ z. get_or ps z 0) f.2)
