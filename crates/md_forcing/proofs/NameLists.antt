-- The ascending list of a set of names, and how many entries there can be.
use Rattle.std.proofs.Common.{◌≡◌, ◌⊎◌, ℕ, zero, suc, ◌+◌, ◌*◌, ◌<◌, ◌≤◌, List, [], ◌∷◌, ◌++◌, map, length, refl, sym, ap, subst, inl, inr, arith, true, false, ◌&&◌, nat_le, eqb, if◌then◌else◌, append-nil, suc-mul, mul-le-mul}
use Rattle.std.proofs.lemmas.List.{length-map}
use Rattle.std.proofs.lemmas.Bool.{cases_Bool, cases_lt, eqb-true}
use Rattle.std.proofs.lemmas.Bool.Decides.{nat_tests}
use Rattle.std.proofs.lemmas.Map.Steps.{length-le_from_distinct_below}
use Rattle.std.specs.List.{IsDistinct, AllByRecursion, list_any}
use Rattle.std.specs.Map.{keys_of}
use Rattle.std.specs.FinSet as set
use Rattle.md_graph.specs.Sets.{NameSet, Has}
use Rattle.md_graph.specs.NameSet.{ascending_between}
use Rattle.md_graph.proofs.SetLemmas.{clash}
use Rattle.md_forcing.specs.declared.arc.Arc.{Arc}
use Rattle.md_forcing.specs.Lists.{Holds, NoRepeats}
use Rattle.md_forcing.proofs.ListLemmas.{holds_left, holds_right, of_append, of_map, once_push, once_map}

last_in : (s : NameSet) (n : ℕ) → (nat_le 0 n && set.contains s n) ≡ true → Has s n
last_in s n h = grind (arith, nat_tests)

last_has : (s : NameSet) (n : ℕ) → Has s n → (nat_le 0 n && set.contains s n) ≡ true
last_has s n h = grind (arith, nat_tests)

-- each item is a member below the bound
pub of_ascending : (s : NameSet) (n w : ℕ) → Holds (ascending_between s 0 n) w → Has s w × (w < n)
unfolding ascending_between
of_ascending s zero w h = absurd h
of_ascending s (suc n) w h =
    elim (of_append _ _ w h) [
      | inl l ↦ let before = of_ascending s n w l in let below = before.1 in (before.0, omega arith)
      | inr r ↦ elim (nat_le 0 n && set.contains s n) as (λ b. (nat_le 0 n && set.contains s n) ≡ b → Holds (if b then n ∷ [] else []) w → Has s w × (w < suc n)) [
        | true ↦ λ e h. elim h [
          | inl same ↦ (subst (Has s) (sym same) (last_in s n e), omega arith)
          | inr none ↦ absurd none
        ]
        | false ↦ λ e h. absurd h
      ] refl r
    ]

pub less_or_last : (w n : ℕ) → w < suc n → (w < n) ⊎ (w ≡ n)
less_or_last w n h = elim (cases_lt w n) [ inl below ↦ inl below | inr above ↦ inr (omega arith) ]

-- and each member below it is an item
pub in_ascending : (s : NameSet) (n w : ℕ) → Has s w → w < n → Holds (ascending_between s 0 n) w
unfolding ascending_between
in_ascending s zero w m h = absurd (omega arith)
in_ascending s (suc n) w m h =
    elim (less_or_last w n h) [
      | inl below ↦ holds_left _ _ w (in_ascending s n w m below)
      | inr same ↦
          let here : (nat_le 0 n && set.contains s n) ≡ true = last_has s n (subst (Has s) same m) in
          rw here (holds_right (ascending_between s 0 n) (n ∷ []) w (inl same))
    ]

pub ascending_once : (s : NameSet) (n : ℕ) → NoRepeats (ascending_between s 0 n)
unfolding ascending_between
ascending_once s zero = tt
ascending_once s (suc n) =
    elim (nat_le 0 n && set.contains s n) as (λ b. NoRepeats (ascending_between s 0 n ++ (if b then n ∷ [] else []))) [
      | true ↦ once_push _ n (ascending_once s n) (λ h. let below = (of_ascending s n n h).1 in absurd (omega arith))
      | false ↦ rw append-nil (ascending_once s n)
    ]

-- ---- numbers below n without repeats are at most n

any_holds : (xs : List ℕ) (q : ℕ) → list_any (eqb q) xs ≡ true → Holds xs q
any_holds [] q h = absurd (clash h refl)
any_holds (x ∷ xs) q h =
    elim (cases_Bool (eqb q x)) [
      | inl t ↦ inl (eqb-true q x t)
      | inr f ↦ inr (any_holds xs q (let e : list_any (eqb q) xs ≡ true = grind arith in e))
    ]

none_equal : (x : ℕ) (xs : List ℕ) → (Holds xs x → ⊥) → AllByRecursion (λ y. eqb x y ≡ false) xs
none_equal x [] new = tt
none_equal x (y ∷ ys) new = (
  elim (cases_Bool (eqb x y)) [ inl t ↦ absurd (new (inl (eqb-true x y t))) | inr f ↦ f ],
  none_equal x ys (λ h. new (inr h)),
)

distinct : (xs : List ℕ) → NoRepeats xs → IsDistinct eqb xs
unfolding IsDistinct
distinct [] once = tt
distinct (x ∷ xs) once = (none_equal x xs once.0, distinct xs once.1)

pub few_numbers : (xs : List ℕ) (n : ℕ) → NoRepeats xs → ((q : ℕ) → Holds xs q → q < n) → length xs ≤ n
few_numbers xs n once below = length-le_from_distinct_below xs n (distinct xs once) (λ q h. below q (any_holds xs q h))

-- ---- arcs between names below n are at most n * n

code : ℕ → Arc → ℕ
code n a = a.tail * n + a.head

row_below : (n u v h : ℕ) → h < n → u < v → u * n + h < v * n
row_below n u v h below less =
    let up : suc u * n ≤ v * n = mul-le-mul (let le : suc u ≤ v = omega arith in le) (let le : n ≤ n = omega arith in le) in
    let more : suc u * n ≡ u * n + n = suc-mul u n in
    omega arith

same_code : (n : ℕ) (a b : Arc) → a.head < n → b.head < n → code n a ≡ code n b → a ≡ b
unfolding code
same_code n a b below_a below_b e =
    elim (cases_lt a.tail b.tail) [
      | inl less ↦ let l = row_below n a.tail b.tail a.head below_a less in absurd (omega arith)
      | inr not_less ↦ elim (cases_lt b.tail a.tail) [
        | inl less ↦ let l = row_below n b.tail a.tail b.head below_b less in absurd (omega arith)
        | inr not_more ↦
            let tails : a.tail ≡ b.tail = omega arith in
            let heads : a.head ≡ b.head = (let rows = ap (λ t. t * n) tails in omega arith) in
            λ i. record { tail = tails i; head = heads i }
      ]
    ]

code_below : (n : ℕ) (a : Arc) → a.tail < n → a.head < n → code n a < n * n
unfolding code
code_below n a t h = let l = row_below n a.tail n a.head h t in omega arith

pub few_arcs : (n : ℕ) (list : List Arc) → NoRepeats list → ((a : Arc) → Holds list a → (a.tail < n) × (a.head < n)) → length list ≤ n * n
few_arcs n list once within =
    let few = few_numbers (map (code n) list) (n * n) (once_map (code n) list (λ x z l r e. same_code n x z (within x l).1 (within z r).1 e) once)
    (λ q h. let arc_of = of_map (code n) list q h in subst (λ k. k < n * n) (sym arc_of.2) (code_below n arc_of.0 (within arc_of.0 arc_of.1).0 (within arc_of.0 arc_of.1).1)) in
    let len = length-map list (code n) in
    omega arith

-- the entries of a class are as many as its arcs
pub length-keys : (es : List (Arc × ℕ)) → length (keys_of es) ≡ length es
length-keys [] = refl
length-keys (e ∷ es) = ap suc (length-keys es)
