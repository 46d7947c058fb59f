-- Names in lists: what is in a filtered list, lists of all numbers below a bound, and how many
-- numbers there can be.
use Rattle.std.proofs.Common.{◌≡◌, ◌≢◌, ℕ, zero, suc, ◌<◌, ◌≤◌, Bool, true, false, cond, ◌&&◌, ◌==◌, if◌then◌else◌, ltb, List, [], ◌∷◌, ◌++◌, length, get_or, All, AllPairs, refl, sym, ◌∙◌, ap, subst, inl, inr, arith, append-nil}
use Rattle.std.specs.List.{filter}
use Rattle.std.proofs.lemmas.Bool.{or_right, cases_eq, eq-eqb, ne_eqb, false≢true}
use Rattle.std.proofs.lemmas.Bool.Decides.{nat_tests}
use Rattle.std.proofs.lemmas.List.Elements.{All-nil, All-cons, All-head, All-tail, All-get_or, filter-append}
use Rattle.std.proofs.lemmas.List.Folds.{list_any-append}
use Rattle.std.proofs.lemmas.List.Quantifiers.{all_pairs_push}
use Rattle.md_refine.specs.Partitions.{is_in}
use Rattle.md_refine.specs.Slots.{numbers}

-- ---- in a list

pub in_first : (x : ℕ) (xs : List ℕ) → is_in (x ∷ xs) x ≡ true
in_first x xs = rw (eq-eqb x x refl) refl

pub in_later : (x v : ℕ) (xs : List ℕ) → is_in xs v ≡ true → is_in (x ∷ xs) v ≡ true
in_later x v xs m = grind (arith, nat_tests)

pub in_other : (x v : ℕ) (xs : List ℕ) → x ≢ v → is_in (x ∷ xs) v ≡ is_in xs v
in_other x v xs other = rw (ne_eqb x v other) refl

pub in_some : (xs : List ℕ) (v : ℕ) → is_in xs v ≡ true → xs ≢ []
in_some xs v m none = false≢true (sym (ap (λ l. is_in l v) none) ∙ m)

pub in_all : (P : ℕ → Type 0) (xs : List ℕ) → ((v : ℕ) → is_in xs v ≡ true → P v) → All P xs
in_all P [] each = All-nil P
in_all P (x ∷ xs) each = All-cons P x xs (each x (in_first x xs)) (in_all P xs (λ v m. each v (in_later x v xs m)))

pub of_all : (P : ℕ → Type 0) (xs : List ℕ) (v : ℕ) → All P xs → is_in xs v ≡ true → P v
of_all P [] v all m = absurd (false≢true m)
of_all P (x ∷ xs) v all m =
    elim (cases_eq x v) [
      | inl same ↦ subst P same (All-head P x xs all)
      | inr other ↦ of_all P xs v (All-tail P x xs all) (sym (in_other x v xs other) ∙ m)
    ]

-- ---- filtered

pub in_filter : (f : ℕ → Bool) (xs : List ℕ) (v : ℕ) → is_in (filter f xs) v ≡ (f v && is_in xs v)
in_filter f [] v = elim (f v) as (λ b. false ≡ (b && false)) [ true ↦ refl | false ↦ refl ]
in_filter f (x ∷ xs) v =
    elim (cases_eq x v) [
      | inl same ↦ elim (f x) as (λ b. f x ≡ b → is_in (cond b (x ∷ filter f xs) (filter f xs)) v ≡ (f v && is_in (x ∷ xs) v)) [
        | true ↦ λ e. rw (eq-eqb x v same, sym (ap f same) ∙ e) refl
        | false ↦ λ e. in_filter f xs v ∙ rw (sym (ap f same) ∙ e) refl
      ] refl
      | inr other ↦ elim (f x) as (λ b. is_in (cond b (x ∷ filter f xs) (filter f xs)) v ≡ (f v && is_in (x ∷ xs) v)) [
        | true ↦ rw (ne_eqb x v other) (in_filter f xs v)
        | false ↦ rw (ne_eqb x v other) (in_filter f xs v)
      ]
    ]

pub filter_same : (f g : ℕ → Bool) (xs : List ℕ) → ((v : ℕ) → is_in xs v ≡ true → f v ≡ g v) → filter f xs ≡ filter g xs
filter_same f g [] same = refl
filter_same f g (x ∷ xs) same =
    rw (same x (in_first x xs), filter_same f g xs (λ v m. same v (in_later x v xs m))) refl

pub filter_twice : (f g : ℕ → Bool) (xs : List ℕ) → filter g (filter f xs) ≡ filter (λ v. f v && g v) xs
filter_twice f g [] = refl
filter_twice f g (x ∷ xs) =
    elim (f x) as (λ b. filter g (cond b (x ∷ filter f xs) (filter f xs)) ≡ cond (b && g x) (x ∷ filter (λ v. f v && g v) xs) (filter (λ v. f v && g v) xs)) [
      | true ↦ rw (filter_twice f g xs) refl
      | false ↦ filter_twice f g xs
    ]

pub filter_all : (f : ℕ → Bool) (xs : List ℕ) → ((v : ℕ) → is_in xs v ≡ true → f v ≡ true) → filter f xs ≡ xs
filter_all f [] all = refl
filter_all f (x ∷ xs) all = rw (all x (in_first x xs), filter_all f xs (λ v m. all v (in_later x v xs m))) refl

pub filter_none : (f : ℕ → Bool) (xs : List ℕ) → ((v : ℕ) → is_in xs v ≡ true → f v ≡ false) → filter f xs ≡ []
filter_none f [] none = refl
filter_none f (x ∷ xs) none = rw (none x (in_first x xs)) (filter_none f xs (λ v m. none v (in_later x v xs m)))

-- ---- the least of an ascending list

pub least_first : (xs : List ℕ) (v : ℕ) → AllPairs (λ x y. x < y) xs → is_in xs v ≡ true → ((w : ℕ) → is_in xs w ≡ true → v ≤ w) → (rest : List ℕ) × (xs ≡ v ∷ rest)
least_first [] v order m least = absurd (false≢true m)
least_first (x ∷ xs) v order m least =
    elim (cases_eq x v) [
      | inl same ↦ (xs, ap (λ z. z ∷ xs) same)
      | inr other ↦
          let behind : All (λ y. x < y) xs = λ k d h. order zero (suc k) d (omega arith) (omega arith) in
          let above : x < v = of_all (λ y. x < y) xs v behind (sym (in_other x v xs other) ∙ m) in
          let below = least x (in_first x xs) in
          absurd (omega arith)
    ]

-- what stands before an item of an ascending list is less
pub less_before : (xs rest : List ℕ) (v w : ℕ) → AllPairs (λ x y. x < y) (xs ++ v ∷ rest) → is_in xs w ≡ true → w < v
less_before [] rest v w order m = absurd (false≢true m)
less_before (x ∷ xs) rest v w order m =
    elim (cases_eq x w) [
      | inl same ↦
          let behind : All (λ y. x < y) (xs ++ v ∷ rest) = λ k d h. order zero (suc k) d (omega arith) (omega arith) in
          let there : is_in (xs ++ v ∷ rest) v ≡ true = list_any-append (λ y. y == v) xs (v ∷ rest) ∙ rw (in_first v rest) (or_right (is_in xs v) true refl) in
          let less : x < v = of_all (λ y. x < y) (xs ++ v ∷ rest) v behind there in
          omega arith
      | inr other ↦ less_before xs rest v w (λ i j d l h. order (suc i) (suc j) d (omega arith) (omega arith)) (sym (in_other x w xs other) ∙ m)
    ]

-- ---- all numbers below a bound

pub in_numbers : (n v : ℕ) → is_in (numbers n) v ≡ ltb v n
unfolding numbers
in_numbers zero v = grind (arith, nat_tests)
in_numbers (suc n) v = list_any-append (λ x. x == v) (numbers n) (n ∷ []) ∙ rw (in_numbers n v) (grind (arith, nat_tests))

pub numbers_order : (n : ℕ) → AllPairs (λ x y. x < y) (numbers n)
unfolding numbers
numbers_order zero = λ i j d l h. absurd (omega arith)
numbers_order (suc n) =
    all_pairs_push (λ x y. x < y) (numbers n) n (numbers_order n)
    (λ k d h. All-get_or (λ x. x < n) (numbers n) k d h (in_all (λ x. x < n) (numbers n) (λ v m. let e = in_numbers n v in grind (arith, nat_tests))))

-- one more number passes, which is greater than those that passed
pub one_more : (f g : ℕ → Bool) (n v : ℕ) → v < n → f v ≡ false → g v ≡ true → ((w : ℕ) → w ≢ v → g w ≡ f w) → ((w : ℕ) → f w ≡ true → w < v) → filter g (numbers n) ≡ filter f (numbers n) ++ v ∷ []
unfolding numbers
one_more f g zero v low off on same above = absurd (omega arith)
one_more f g (suc n) v low off on same above =
    elim (cases_eq n v) [
      | inl here ↦
          let before : filter g (numbers n) ≡ filter f (numbers n) = filter_same g f (numbers n) (λ w m. same w (λ e. let b = in_numbers n w in grind (arith, nat_tests))) in
          let gn : g n ≡ true = ap g here ∙ on in
          let fn : f n ≡ false = ap f here ∙ off in
          rw (filter-append g (numbers n) (n ∷ []), filter-append f (numbers n) (n ∷ []), gn, fn, append-nil, before, here) refl
      | inr other ↦
          let past : f n ≡ false = elim (f n) as (λ b. f n ≡ b → f n ≡ false) [ true ↦ λ e. absurd (let h = above n e in omega arith) | false ↦ λ e. e ] refl in
          let too : g n ≡ false = same n other ∙ past in
          rw (filter-append g (numbers n) (n ∷ []), filter-append f (numbers n) (n ∷ []), past, too, append-nil, append-nil) (one_more f g n v (omega arith) off on same above)
    ]

-- ---- as many numbers as places

-- a number in a list stands at some place there
pub place_in : (xs : List ℕ) (v : ℕ) → is_in xs v ≡ true → (k : ℕ) × (k < length xs) × (get_or xs k 0 ≡ v)
place_in [] v m = absurd (false≢true m)
place_in (x ∷ xs) v m =
    elim (cases_eq x v) [
      | inl same ↦ (zero, omega arith, same)
      | inr other ↦ let rest = place_in xs v (sym (in_other x v xs other) ∙ m) in (suc rest.0, (let low = rest.1 in omega arith), rest.2)
    ]

-- where each number below m comes from one below n, m is at most n
pub few : (n m : ℕ) (f : ℕ → ℕ) → ((q : ℕ) → q < m → (w : ℕ) × (w < n) × (f w ≡ q)) → m ≤ n
few zero m f onto = elim (cases_eq m 0) [ inl none ↦ omega arith | inr some ↦ absurd (let w = onto 0 (omega arith) in let h = w.1 in omega arith) ]
few (suc n) zero f onto = omega arith
few (suc n) (suc m) f onto =
    let rest = few n m (λ w. if f w == m then f n else f w) (λ q low.
    let at_q = onto q (omega arith) in
    let at_m = onto m (omega arith) in
    elim (cases_eq (f n) q) [
      | inl here ↦ (at_m.0, (let e = at_m.2 in let l = at_m.1 in apart n at_m.0 m q f l e here (omega arith)), rw (eq-eqb (f at_m.0) m at_m.2) here)
      | inr other ↦ (at_q.0, (let e = at_q.2 in let l = at_q.1 in apart_too n at_q.0 q f l e other), rw (ne_eqb (f at_q.0) m (λ e. let s = at_q.2 in omega arith)) at_q.2)
    ]) in
    omega arith
  where
    apart_too : (n w q : ℕ) (f : ℕ → ℕ) → w < suc n → f w ≡ q → (f n ≡ q → ⊥) → w < n
    apart_too n w q f low is other = elim (cases_eq w n) [ inl same ↦ absurd (other (sym (ap f same) ∙ is)) | inr differ ↦ omega arith ]

    apart : (n w m q : ℕ) (f : ℕ → ℕ) → w < suc n → f w ≡ m → f n ≡ q → q < m → w < n
    apart n w m q f low is here less = apart_too n w m f low is (λ e. omega arith)
