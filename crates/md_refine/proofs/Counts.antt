-- How many names have a mark.
use Rattle.std.proofs.Common.{◌≡◌, ◌≢◌, ℕ, zero, suc, ◌+◌, ◌<◌, ◌≤◌, cond, ◌==◌, List, [], ◌∷◌, length, get_or, set, Option, Some, None, refl, sym, ◌∙◌, ap, inl, inr, arith}
use Rattle.std.specs.List.{count_by}
use Rattle.std.proofs.lemmas.Bool.{cases_eq, cases_lt, eq-eqb, ne_eqb}
use Rattle.std.proofs.lemmas.Option.{none-some}
use Rattle.std.proofs.lemmas.List.{get_or_past}
use Rattle.std.proofs.lemmas.List.Sums.{sum_by-cons, sum_by-set, get_or-le-sum_by}
use Rattle.md_refine.specs.Slots.{is_mark}

-- 1 where the mark is i, else 0
abbrev pub one : ℕ → Option ℕ → ℕ
one i o = cond (is_mark i o) 1 0

-- a mark that a name has is counted
pub counted_one : (i : ℕ) (xs : List (Option ℕ)) (w : ℕ) → get_or xs w None ≡ Some i → 1 ≤ count_by (is_mark i) xs
counted_one i xs w is =
    elim (cases_lt w (length xs)) [
      | inl low ↦
          let most = get_or-le-sum_by (one i) xs w None low in
          let here : one i (get_or xs w None) ≡ 1 = ap (one i) is ∙ rw (eq-eqb i i refl) refl in
          omega arith
      | inr high ↦ absurd (none-some i (sym (get_or_past xs w None high) ∙ is))
    ]

-- a mark that is counted is that of some name
pub some_counted : (i : ℕ) (xs : List (Option ℕ)) → count_by (is_mark i) xs ≢ 0 → (w : ℕ) × (get_or xs w None ≡ Some i)
some_counted i [] some = absurd (some refl)
some_counted i (x ∷ xs) some =
    let whole = sum_by-cons (one i) x xs in
    elim (cases_eq (one i x) 0) [
      | inl none ↦ let rest = some_counted i xs (λ e. some (whole ∙ (let f = none in let h = e in omega arith))) in (suc rest.0, rest.1)
      | inr here ↦ (zero, is_some_mark x here)
    ]
  where
    is_some_mark : (o : Option ℕ) → (one i o ≡ 0 → ⊥) → o ≡ Some i
    is_some_mark None here = absurd (here refl)
    is_some_mark (Some j) here =
        elim (cases_eq j i) [
          | inl same ↦ ap (λ q. Some q) same
          | inr other ↦ absurd (here (rw (ne_eqb j i other) refl))
        ]

-- how the counts change where a name with the mark i gets another, d
module _ (xs : List (Option ℕ)) (v i d : ℕ) (low : v < length xs) (is : get_or xs v None ≡ Some i) (differ : i ≢ d) where
  change : (j : ℕ) → count_by (is_mark j) (set xs v (Some d)) + cond (i == j) 1 0 ≡ count_by (is_mark j) xs + cond (d == j) 1 0
  change j = ap (λ o. count_by (is_mark j) (set xs v (Some d)) + one j o) (sym is) ∙ sum_by-set (one j) xs v (Some d) None low

  pub counted_less : count_by (is_mark i) (set xs v (Some d)) + 1 ≡ count_by (is_mark i) xs
  counted_less = let e = change i in let h = rw (eq-eqb i i refl, ne_eqb d i (λ e. differ (sym e))) at e in omega arith

  pub counted_more : count_by (is_mark d) (set xs v (Some d)) ≡ count_by (is_mark d) xs + 1
  counted_more = let e = change d in let h = rw (ne_eqb i d differ, eq-eqb d d refl) at e in omega arith

  pub counted_same : (j : ℕ) → i ≢ j → d ≢ j → count_by (is_mark j) (set xs v (Some d)) ≡ count_by (is_mark j) xs
  counted_same j first second = let e = change j in let h = rw (ne_eqb i j first, ne_eqb d j second) at e in omega arith
