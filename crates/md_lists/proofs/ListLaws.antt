-- How often a place stands in a list, what is first, last and next there, and how lists fall apart.
use Rattle.std.proofs.Common.{◌≡◌, ◌⊎◌, ◌≢◌, ℕ, zero, suc, ◌+◌, ◌-◌, ◌<◌, ◌≤◌, true, cond, ◌==◌, List, [], ◌∷◌, ◌++◌, length, Option, Some, None, is_some, IfSome, refl, sym, ◌∙◌, ap, inl, inr, arith, append-nil, length-append}
use Rattle.std.specs.Option.{option_or}
use Rattle.std.proofs.lemmas.Bool.{cases_eq, eq-eqb, ne_eqb}
use Rattle.std.proofs.lemmas.Option.{none-some, same_Some}
use Rattle.md_lists.specs.declared.span.Span.{Span}
use Rattle.md_lists.specs.Words.{last_or, without, exchanged, added_once}
use Rattle.md_graph.specs.Linked.{first_or, times}
use Rattle.md_lists.specs.Spans.{span_of}

-- ---- how often

pub times-append : (p : ℕ) (xs ys : List ℕ) → times p (xs ++ ys) ≡ times p xs + times p ys
times-append p [] ys = omega arith
times-append p (x ∷ xs) ys = omega (arith, times-append p xs ys)

pub times-first : (p : ℕ) (xs : List ℕ) → times p (p ∷ xs) ≡ 1 + times p xs
times-first p xs = rw (eq-eqb p p refl) refl

pub times-other : (p x : ℕ) (xs : List ℕ) → x ≢ p → times p (x ∷ xs) ≡ times p xs
times-other p x xs other = rw (ne_eqb x p other) (omega arith)

pub times-split : (p c : ℕ) (xs ys : List ℕ) → times p (xs ++ c ∷ ys) ≡ times p xs + (cond (c == p) 1 0 + times p ys)
times-split p c xs ys = times-append p xs (c ∷ ys)

-- a list in which something stands isn't empty
pub some_items : (c : ℕ) (xs : List ℕ) → 0 < times c xs → 0 < length xs
some_items c [] some = absurd (omega arith)
some_items c (x ∷ xs) some = omega arith

-- a list falls apart at what stands in it
pub split : (c : ℕ) (xs : List ℕ) → 0 < times c xs → (before after : List ℕ) × (xs ≡ before ++ c ∷ after)
split c [] some = absurd (omega arith)
split c (x ∷ xs) some =
    elim (cases_eq x c) [
      | inl same ↦ ([], xs, ap (λ z. z ∷ xs) same)
      | inr other ↦
          let rest = split c xs (let e = times-other c x xs other in omega arith) in
          (x ∷ rest.0, rest.1, ap (λ l. x ∷ l) rest.2)
    ]

-- a list falls apart at c, which stands there once
pub record SplitsAt (xs : List ℕ) (c : ℕ) (before after : List ℕ) : Type 0 where
  pub whole : xs ≡ before ++ c ∷ after
  pub left : times c before ≡ 0
  pub right : times c after ≡ 0

pub split_once : (c : ℕ) (xs : List ℕ) → times c xs ≡ 1 → (before after : List ℕ) × SplitsAt xs c before after
split_once c xs one =
    let at = split c xs (omega arith) in
    let counted = sym (ap (times c) at.2) ∙ one in
    let parts = times-split c c at.0 at.1 in
    let e = eq-eqb c c refl in
    let all : times c at.0 + (1 + times c at.1) ≡ 1 = rw e at (sym parts ∙ counted) in
    (at.0, at.1, record { whole = at.2; left = omega arith; right = omega arith })

pub times-joined-same : (p : ℕ) (xs : List ℕ) → times p xs ≤ 1 → times p (added_once p xs) ≡ 1
times-joined-same p xs once =
    elim (cases_eq (times p xs) 0) [
      | inl none ↦ rw (eq-eqb (times p xs) 0 none) (times-split p p xs [] ∙ rw (eq-eqb p p refl) (omega arith))
      | inr some ↦ rw (ne_eqb (times p xs) 0 some) (omega arith)
    ]

pub times-joined-other : (x p : ℕ) (xs : List ℕ) → x ≢ p → times x (added_once p xs) ≡ times x xs
times-joined-other x p xs other =
    elim (cases_eq (times p xs) 0) [
      | inl none ↦ rw (eq-eqb (times p xs) 0 none) (times-split x p xs [] ∙ rw (ne_eqb p x (λ e. other (sym e))) (omega arith))
      | inr some ↦ rw (ne_eqb (times p xs) 0 some) refl
    ]

-- ---- first and last

pub first_or-append : (xs ys : List ℕ) (d : Option ℕ) → first_or (xs ++ ys) d ≡ first_or xs (first_or ys d)
first_or-append [] ys d = refl
first_or-append (x ∷ xs) ys d = refl

pub last_or-append : (xs ys : List ℕ) (d : Option ℕ) → last_or (xs ++ ys) d ≡ last_or ys (last_or xs d)
last_or-append [] ys d = refl
last_or-append (x ∷ xs) ys d = last_or-append xs ys (Some x)

last_some : (xs : List ℕ) (x : ℕ) → is_some (last_or xs (Some x)) ≡ true
last_some [] x = refl
last_some (y ∷ xs) x = last_some xs y

last_of : (xs : List ℕ) (d : Option ℕ) (z : ℕ) → last_or xs d ≡ Some z → (0 < times z xs) ⊎ (d ≡ Some z)
last_of [] d z e = inr e
last_of (x ∷ xs) d z e =
    elim (last_of xs (Some x) z e) [
      | inl some ↦ inl (omega arith)
      | inr is ↦ inl (let one = eq-eqb x z (same_Some x z is) in rw one (omega arith))
    ]

-- the last item stands in the list
pub last_in : (xs : List ℕ) (z : ℕ) → last_or xs None ≡ Some z → 0 < times z xs
last_in xs z e = elim (last_of xs None z e) [ inl some ↦ some | inr is ↦ absurd (none-some z is) ]

-- the first item stands in the list
pub first_in : (xs : List ℕ) (z : ℕ) → first_or xs None ≡ Some z → 0 < times z xs
first_in [] z e = absurd (none-some z e)
first_in (x ∷ xs) z e = let one = eq-eqb x z (same_Some x z e) in rw one (omega arith)

-- an end of a list is below a bound of its items
pub last_low : (o : Option ℕ) (xs : List ℕ) (n : ℕ) → o ≡ last_or xs None → ((x : ℕ) → 0 < times x xs → x < n) → IfSome o (λ p. p < n)
last_low None xs n is low = tt
last_low (Some z) xs n is low = low z (last_in xs z (sym is))

pub first_low : (o : Option ℕ) (xs : List ℕ) (n : ℕ) → o ≡ first_or xs None → ((x : ℕ) → 0 < times x xs → x < n) → IfSome o (λ p. p < n)
first_low None xs n is low = tt
first_low (Some z) xs n is low = low z (first_in xs z (sym is))

-- ---- without one, and with another

pub without_absent : (c : ℕ) (xs : List ℕ) → times c xs ≡ 0 → without c xs ≡ xs
without_absent c [] none = refl
without_absent c (x ∷ xs) none =
    elim (cases_eq x c) [
      | inl same ↦ absurd (let one = eq-eqb x c same in let all : 1 + times c xs ≡ 0 = rw one at none in omega arith)
      | inr other ↦ rw (ne_eqb x c other) (ap (λ l. x ∷ l) (without_absent c xs (sym (times-other c x xs other) ∙ none)))
    ]

pub times-without : (p c : ℕ) (xs : List ℕ) → times p (without c xs) ≡ cond (p == c) 0 (times p xs)
times-without p c [] = elim (cases_eq p c) [ inl same ↦ rw (eq-eqb p c same) refl | inr other ↦ rw (ne_eqb p c other) refl ]
times-without p c (x ∷ xs) =
    elim (cases_eq x c) [
      | inl same ↦ rw (eq-eqb x c same) (times-without p c xs ∙ drop_first (cases_eq p c) same)
      | inr other ↦ rw (ne_eqb x c other) (ap (λ n. cond (x == p) 1 0 + n) (times-without p c xs) ∙ keep_first (cases_eq p c) other)
    ]
  where
    drop_first : (p ≡ c) ⊎ (p ≡ c → ⊥) → x ≡ c → cond (p == c) 0 (times p xs) ≡ cond (p == c) 0 (times p (x ∷ xs))
    drop_first (inl here) same = rw (eq-eqb p c here) refl
    drop_first (inr there) same = rw (ne_eqb p c there) (sym (times-other p x xs (λ e. there (sym e ∙ same))))

    keep_first : (p ≡ c) ⊎ (p ≡ c → ⊥) → (x ≡ c → ⊥) → cond (x == p) 1 0 + cond (p == c) 0 (times p xs) ≡ cond (p == c) 0 (times p (x ∷ xs))
    keep_first (inl here) other = rw (eq-eqb p c here, ne_eqb x p (λ e. other (e ∙ here))) refl
    keep_first (inr there) other = rw (ne_eqb p c there) refl

pub length-without : (c : ℕ) (xs : List ℕ) → length (without c xs) + times c xs ≡ length xs
length-without c [] = refl
length-without c (x ∷ xs) =
    elim (cases_eq x c) [
      | inl same ↦ rw (eq-eqb x c same) (omega (arith, length-without c xs))
      | inr other ↦ rw (ne_eqb x c other) (omega (arith, length-without c xs))
    ]

without-append : (c : ℕ) (xs ys : List ℕ) → without c (xs ++ ys) ≡ without c xs ++ without c ys
without-append c [] ys = refl
without-append c (x ∷ xs) ys =
    elim (cases_eq x c) [
      | inl same ↦ rw (eq-eqb x c same) (without-append c xs ys)
      | inr other ↦ rw (ne_eqb x c other) (ap (λ l. x ∷ l) (without-append c xs ys))
    ]

without-first : (c : ℕ) (xs : List ℕ) → without c (c ∷ xs) ≡ without c xs
without-first c xs = rw (eq-eqb c c refl) refl

pub without-split : (c : ℕ) (xs ys : List ℕ) → times c xs ≡ 0 → times c ys ≡ 0 → without c (xs ++ c ∷ ys) ≡ xs ++ ys
without-split c xs ys left right =
    without-append c xs (c ∷ ys) ∙ ap (λ l. l ++ without c (c ∷ ys)) (without_absent c xs left) ∙ ap (λ l. xs ++ l) (without-first c ys ∙ without_absent c ys right)

exchanged_absent : (p n : ℕ) (xs : List ℕ) → times p xs ≡ 0 → exchanged p n xs ≡ xs
exchanged_absent p n [] none = refl
exchanged_absent p n (x ∷ xs) none =
    elim (cases_eq x p) [
      | inl same ↦ absurd (let one = eq-eqb x p same in let all : 1 + times p xs ≡ 0 = rw one at none in omega arith)
      | inr other ↦ rw (ne_eqb x p other) (ap (λ l. x ∷ l) (exchanged_absent p n xs (sym (times-other p x xs other) ∙ none)))
    ]

exchanged-append : (p n : ℕ) (xs ys : List ℕ) → exchanged p n (xs ++ ys) ≡ exchanged p n xs ++ exchanged p n ys
exchanged-append p n [] ys = refl
exchanged-append p n (x ∷ xs) ys = ap (λ l. cond (x == p) n x ∷ l) (exchanged-append p n xs ys)

exchanged-first : (p n : ℕ) (xs : List ℕ) → exchanged p n (p ∷ xs) ≡ n ∷ exchanged p n xs
exchanged-first p n xs = rw (eq-eqb p p refl) refl

pub exchanged-split : (p n : ℕ) (xs ys : List ℕ) → times p xs ≡ 0 → times p ys ≡ 0 → exchanged p n (xs ++ p ∷ ys) ≡ xs ++ n ∷ ys
exchanged-split p n xs ys left right =
    exchanged-append p n xs (p ∷ ys) ∙ ap (λ l. l ++ exchanged p n (p ∷ ys)) (exchanged_absent p n xs left) ∙ ap (λ l. xs ++ l) (exchanged-first p n ys ∙ ap (λ l. n ∷ l) (exchanged_absent p n ys right))

-- ---- few

-- a list of numbers below n, each once at most, is no longer than n
pub few : (n : ℕ) (xs : List ℕ) → ((p : ℕ) → times p xs ≤ 1) → ((p : ℕ) → n ≤ p → times p xs ≡ 0) → length xs ≤ n
few zero [] once within = omega arith
few zero (x ∷ xs) once within = absurd (let e = times-first x xs in let none = within x (omega arith) in omega arith)
few (suc n) xs once within =
    let rest = few n (without n xs)
    (λ p. let e = times-without p n xs in let o = once p in elim (cases_eq p n) [
      | inl same ↦ rw (times-without p n xs, eq-eqb p n same) (omega arith)
      | inr other ↦ rw (times-without p n xs, ne_eqb p n other) o
    ])
    (λ p above. elim (cases_eq p n) [
      | inl same ↦ rw (times-without p n xs, eq-eqb p n same) refl
      | inr other ↦ rw (times-without p n xs, ne_eqb p n other) (within p (omega arith))
    ]) in
    let all = length-without n xs in
    let here = once n in
    omega arith

-- ---- spans

first_pushed : (xs : List ℕ) (x : ℕ) → option_or (first_or xs None) (Some x) ≡ first_or (xs ++ x ∷ []) None
first_pushed [] x = refl
first_pushed (y ∷ xs) x = refl

pub span_pushed : (xs : List ℕ) (x : ℕ) (r : Span) (first : Option ℕ) → r ≡ span_of xs → first ≡ option_or r.first (Some x) → ◌≡◌ {A = Span} (record { first = first; last = Some x; count = r.count + 1 }) (span_of (xs ++ x ∷ []))
span_pushed xs x r first is is_first =
    let same : r.count + 1 ≡ length (xs ++ x ∷ []) = ap (λ q. q.count + 1) is ∙ sym (length-append xs (x ∷ [])) in
    λ i. record {
      first = (is_first ∙ ap (λ q. option_or q.first (Some x)) is ∙ first_pushed xs x) i;
      last = sym (last_or-append xs (x ∷ []) None) i;
      count = same i;
    }

-- what became of an end
end_is : (r s : Span) (before beside after other : Option ℕ) (end : Span → Option ℕ) → r ≡ s → beside ≡ before → after ≡ other → cond (is_some beside) (end r) after ≡ cond (is_some before) (end s) other
end_is r s before beside after other end is near far = λ i. cond (is_some (near i)) (end (is i)) (far i)

first_without : (xs ys : List ℕ) (x : ℕ) → cond (is_some (last_or xs None)) (first_or (xs ++ x ∷ ys) None) (first_or ys None) ≡ first_or (xs ++ ys) None
first_without [] ys x = refl
first_without (z ∷ xs) ys x = rw (last_some xs z) refl

last_without : (xs ys : List ℕ) (x : ℕ) → cond (is_some (first_or ys None)) (last_or (xs ++ x ∷ ys) None) (last_or xs None) ≡ last_or (xs ++ ys) None
last_without xs [] x = ap (λ l. last_or l None) (sym (append-nil xs))
last_without xs (y ∷ ys) x = last_or-append xs (x ∷ y ∷ ys) None ∙ sym (last_or-append xs (y ∷ ys) None)

first_other : (xs ys : List ℕ) (x n : ℕ) → cond (is_some (last_or xs None)) (first_or (xs ++ x ∷ ys) None) (Some n) ≡ first_or (xs ++ n ∷ ys) None
first_other [] ys x n = refl
first_other (z ∷ xs) ys x n = rw (last_some xs z) refl

last_other : (xs ys : List ℕ) (x n : ℕ) → cond (is_some (first_or ys None)) (last_or (xs ++ x ∷ ys) None) (Some n) ≡ last_or (xs ++ n ∷ ys) None
last_other xs [] x n = sym (last_or-append xs (n ∷ []) None)
last_other xs (y ∷ ys) x n = last_or-append xs (x ∷ y ∷ ys) None ∙ sym (last_or-append xs (n ∷ y ∷ ys) None)

module _ (xs ys : List ℕ) (x : ℕ) (r : Span) (previous next first last : Option ℕ) (is : r ≡ span_of (xs ++ x ∷ ys)) (before : previous ≡ last_or xs None) (after : next ≡ first_or ys None) where
  pub span_without : first ≡ cond (is_some previous) r.first next → last ≡ cond (is_some next) r.last previous → ◌≡◌ {A = Span} (record { first = first; last = last; count = r.count - 1 }) (span_of (xs ++ ys))
  span_without is_first is_last =
      let long = length-append xs (x ∷ ys) in
      let short = length-append xs ys in
      let counted = ap (λ (q : Span). q.count) is in
      let same : r.count - 1 ≡ length (xs ++ ys) = omega arith in
      λ i. record {
        first = (is_first ∙ end_is r (span_of (xs ++ x ∷ ys)) (last_or xs None) previous next (first_or ys None) (λ q. q.first) is before after ∙ first_without xs ys x) i;
        last = (is_last ∙ end_is r (span_of (xs ++ x ∷ ys)) (first_or ys None) next previous (last_or xs None) (λ q. q.last) is after before ∙ last_without xs ys x) i;
        count = same i;
      }

  pub span_other : (n : ℕ) → first ≡ cond (is_some previous) r.first (Some n) → last ≡ cond (is_some next) r.last (Some n) → ◌≡◌ {A = Span} (record { first = first; last = last; count = r.count }) (span_of (xs ++ n ∷ ys))
  span_other n is_first is_last =
      λ i. record {
        first = (is_first ∙ end_is r (span_of (xs ++ x ∷ ys)) (last_or xs None) previous (Some n) (Some n) (λ q. q.first) is before refl ∙ first_other xs ys x n) i;
        last = (is_last ∙ end_is r (span_of (xs ++ x ∷ ys)) (first_or ys None) next (Some n) (Some n) (λ q. q.last) is after refl ∙ last_other xs ys x n) i;
        count = (ap (λ (q : Span). q.count) is ∙ length-append xs (x ∷ ys) ∙ sym (length-append xs (n ∷ ys))) i;
      }
