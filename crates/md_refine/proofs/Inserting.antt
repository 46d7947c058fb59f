-- A place is put behind another in an order.
use Rattle.std.proofs.Common.{◌≡◌, ◌≢◌, ℕ, ◌+◌, ◌<◌, ◌≤◌, true, false, cond, ◌==◌, nat_lt, if◌then◌else◌, List, [], ◌∷◌, ◌++◌, map, length, get_or, set, Option, Some, None, refl, sym, ◌∙◌, ap, inl, inr, arith}
use Rattle.std.specs.List.{flat_map}
use Rattle.std.proofs.lemmas.Bool.{cases_eq, eq-eqb, ne_eqb, false≢true}
use Rattle.std.proofs.lemmas.Bool.Decides.{nat_tests}
use Rattle.std.proofs.lemmas.List.{get_or-set_same, get_or-set_other, length-set}
use Rattle.md_refine.specs.Partitions.{is_in}
use Rattle.md_refine.specs.Slots.{IsPlaceOrder}
use Rattle.md_graph.specs.Linked.{first_or, Follow, times}
use Rattle.md_refine.proofs.Lists.{in_first, in_later, in_other}
use Rattle.md_refine.proofs.Showing.{in_times}

-- the list with n behind p
abbrev pub inserted : ℕ → ℕ → List ℕ → List ℕ
inserted p n [] = []
inserted p n (x ∷ xs) = if x == p then x ∷ n ∷ xs else x ∷ inserted p n xs

module _ (p n : ℕ) where
  inserted_first : (xs : List ℕ) → first_or (inserted p n xs) None ≡ first_or xs None
  inserted_first [] = refl
  inserted_first (x ∷ xs) = elim (x == p) as (λ b. first_or (if b then x ∷ n ∷ xs else x ∷ inserted p n xs) None ≡ Some x) [ true ↦ refl | false ↦ refl ]

  inserted_times : (q : ℕ) (xs : List ℕ) → is_in xs p ≡ true → times q (inserted p n xs) ≡ times q xs + cond (n == q) 1 0
  inserted_times q [] m = absurd (false≢true m)
  inserted_times q (x ∷ xs) m =
      elim (cases_eq x p) [
        | inl here ↦ rw (eq-eqb x p here) (omega arith)
        | inr other ↦ let rest = inserted_times q xs (sym (in_other x p xs other) ∙ m) in rw (ne_eqb x p other) (omega arith)
      ]

  inserted_length : (xs : List ℕ) → is_in xs p ≡ true → length (inserted p n xs) ≡ length xs + 1
  inserted_length [] m = absurd (false≢true m)
  inserted_length (x ∷ xs) m =
      elim (cases_eq x p) [
        | inl here ↦ rw (eq-eqb x p here) (omega arith)
        | inr other ↦ let rest = inserted_length xs (sym (in_other x p xs other) ∙ m) in rw (ne_eqb x p other) (omega arith)
      ]

  -- p isn't behind itself
  gone : (x : ℕ) (xs : List ℕ) → x ≡ p → times p (x ∷ xs) ≤ 1 → times p xs ≡ 0
  gone x xs here once = let one = eq-eqb x p here in let all : cond true 1 0 + times p xs ≤ 1 = rw one at once in omega arith

  less : (x : ℕ) (xs : List ℕ) → times p (x ∷ xs) ≤ 1 → times p xs ≤ 1
  less x xs once = omega arith

  not_in : (q : ℕ) (xs : List ℕ) → times p xs ≡ 0 → is_in xs q ≡ true → q ≢ p
  not_in q xs none m e = let t = in_times p xs in let m2 = ap (is_in xs) (sym e) ∙ m in grind (arith, nat_tests)

  module _ (ns : List (Option ℕ)) (p_low : p < length ns) (n_low : n < length ns) (differ : p ≢ n) where
    relinked_other : (q : ℕ) → q ≢ p → q ≢ n → get_or (set (set ns n (get_or ns p None)) p (Some n)) q None ≡ get_or ns q None
    relinked_other q first second =
        get_or-set_other (set ns n (get_or ns p None)) p q (Some n) None first ∙ get_or-set_other ns n q (get_or ns p None) None second

    follow_same : (xs : List ℕ) → ((q : ℕ) → is_in xs q ≡ true → (q ≢ p) × (q ≢ n)) → Follow ns xs None → Follow (set (set ns n (get_or ns p None)) p (Some n)) xs None
    follow_same [] apart h = tt
    follow_same (x ∷ xs) apart h =
        let first = apart x (in_first x xs) in
        (relinked_other x first.0 first.1 ∙ h.0, follow_same xs (λ q m. apart q (in_later x q xs m)) h.1)

    follow_inserted : (xs : List ℕ) → is_in xs p ≡ true → times p xs ≤ 1 → ((q : ℕ) → is_in xs q ≡ true → q ≢ n) → Follow ns xs None → Follow (set (set ns n (get_or ns p None)) p (Some n)) (inserted p n xs) None
    follow_inserted [] m once new h = absurd (false≢true m)
    follow_inserted (x ∷ xs) m once new h =
        elim (cases_eq x p) [
          | inl here ↦
              let ns2 = set ns n (get_or ns p None) in
              let long = length-set ns n (get_or ns p None) in
              let none = gone x xs here once in
              let at_p : get_or (set ns2 p (Some n)) x None ≡ Some n = ap (λ z. get_or (set ns2 p (Some n)) z None) here ∙ get_or-set_same ns2 p (Some n) None (omega arith) in
              let at_n : get_or (set ns2 p (Some n)) n None ≡ first_or xs None = get_or-set_other ns2 p n (Some n) None (λ e. differ (sym e)) ∙ get_or-set_same ns n (get_or ns p None) None n_low ∙ ap (λ z. get_or ns z None) (sym here) ∙ h.0 in
              rw (eq-eqb x p here) (at_p, (at_n, follow_same xs (λ q k. (not_in q xs none k, new q (in_later x q xs k))) h.1))
          | inr other ↦
              rw (ne_eqb x p other) (
                relinked_other x other (new x (in_first x xs)) ∙ h.0 ∙ sym (inserted_first xs),
                follow_inserted xs (sym (in_other x p xs other) ∙ m) (less x xs once) (λ q k. new q (in_later x q xs k)) h.1,
              )
        ]

    -- the order with one more place
    pub order_inserted : (first : Option ℕ) (order : List ℕ) → IsPlaceOrder ns first order n → p < n → IsPlaceOrder (set (set ns n (get_or ns p None)) p (Some n)) first (inserted p n order) (n + 1)
    order_inserted first order is low =
        let once_p = is.once p in
        let in_p = in_times p order in
        let there : is_in order p ≡ true = grind (arith, nat_tests) in
        let most : times p order ≤ 1 = grind (arith, nat_tests) in
        record {
          begins = is.begins ∙ sym (inserted_first order);
          follow = follow_inserted order there most (λ q m e. let t = in_times q order in let o = is.once q in grind (arith, nat_tests)) is.follow;
          once = λ q. inserted_times q order there ∙ (let o = is.once q in more q (times q order) o);
          long = inserted_length order there ∙ ap (λ z. z + 1) is.long;
          within = (let l = length-set (set ns n (get_or ns p None)) p (Some n) in let l2 = length-set ns n (get_or ns p None) in omega arith);
        }
      where
        more : (q t : ℕ) → t ≡ cond (nat_lt q n) 1 0 → t + cond (n == q) 1 0 ≡ cond (nat_lt q (n + 1)) 1 0
        more q t is = grind (arith, nat_tests)

  -- ---- what stands at the places

  module _ (f g : ℕ → List ℕ) (h : List ℕ → List (List ℕ))
      (same : (q : ℕ) → q ≢ p → q ≢ n → g q ≡ f q) (here : h (f p) ≡ g p ∷ g n ∷ []) (there : (q : ℕ) → q ≢ p → h (f q) ≡ f q ∷ []) where
    stays : (xs : List ℕ) → times p xs ≡ 0 → ((q : ℕ) → is_in xs q ≡ true → q ≢ n) → map g xs ≡ flat_map h (map f xs)
    stays [] none new = refl
    stays (x ∷ xs) none new =
        let other = not_in x (x ∷ xs) none (in_first x xs) in
        λ i. (ap (λ c. c ∷ []) (same x other (new x (in_first x xs))) ∙ sym (there x other)) i ++ stays xs (omega arith) (λ q m. new q (in_later x q xs m)) i

    pub classes_inserted : (xs : List ℕ) → times p xs ≤ 1 → ((q : ℕ) → is_in xs q ≡ true → q ≢ n) → map g (inserted p n xs) ≡ flat_map h (map f xs)
    classes_inserted [] once new = refl
    classes_inserted (x ∷ xs) once new =
        elim (cases_eq x p) [
          | inl is ↦
              let none = gone x xs is once in
              let first : g x ∷ g n ∷ [] ≡ h (f x) = ap (λ z. g z ∷ g n ∷ []) is ∙ sym here ∙ ap (λ z. h (f z)) (sym is) in
              rw (eq-eqb x p is) (λ i. first i ++ stays xs none (λ q m. new q (in_later x q xs m)) i)
          | inr other ↦
              let first : g x ∷ [] ≡ h (f x) = ap (λ c. c ∷ []) (same x other (new x (in_first x xs))) ∙ sym (there x other) in
              rw (ne_eqb x p other) (λ i. first i ++ classes_inserted xs (less x xs once) (λ q m. new q (in_later x q xs m)) i)
        ]

  -- no place is new
  module _ (f : ℕ → List ℕ) (h : List ℕ → List (List ℕ)) (all : (q : ℕ) → h (f q) ≡ f q ∷ []) where
    pub classes_same : (xs : List ℕ) → map f xs ≡ flat_map h (map f xs)
    classes_same [] = refl
    classes_same (x ∷ xs) = λ i. sym (all x) i ++ classes_same xs i
