-- The entries of the map of a class, as `insert` and `get_index_of` of the map leave and find them.
use Rattle.std.proofs.Common.{◌≡◌, ℕ, zero, suc, ◌+◌, ◌<◌, ◌≤◌, Bool, true, cond, ◌&&◌, nat_eq, nat_lt, List, [], ◌∷◌, ◌++◌, length, take, slice_get, get_or, position, Option, Some, None, IfSome, IfNone, refl, sym, ◌∙◌, ap, subst, inl, inr, arith}
use Rattle.std.proofs.lemmas.Bool.{cases_Bool, and_parts, eqb-true}
use Rattle.std.proofs.lemmas.Bool.Decides.{nat_tests}
use Rattle.std.proofs.lemmas.List.Quantifiers.{position-Some}
use Rattle.std.specs.List.{position_or_len}
use Rattle.std.specs.Map.{keys_of}
use Rattle.indexmap.specs.IndexMap.{insert_entry}
use Rattle.md_graph.proofs.SetLemmas.{clash}
use Rattle.md_forcing.specs.declared.arc.Arc.{Arc}
use Rattle.md_forcing.specs.Lists.{Holds, NoRepeats}
use Rattle.md_forcing.proofs.ListLemmas.{key_at, place_of_key, place_within, same_some}
use Rattle.md_forcing.specs.contracts.arc.ArcPartialEq.TheImpl as arc_eq

pub same_arc : (a b : Arc) → arc_eq.eq-value.it a b ≡ true → a ≡ b
same_arc a b h =
    let parts = and_parts (nat_eq a.tail b.tail) (nat_eq a.head b.head) h in
    λ i. record { tail = eqb-true a.tail b.tail parts.0 i; head = eqb-true a.head b.head parts.1 i }

pub arc_itself : (a : Arc) → arc_eq.eq-value.it a a ≡ true
arc_itself a = let P : (nat_eq a.tail a.tail && nat_eq a.head a.head) ≡ true = grind (arith, nat_tests) in P

module _ {K V : Type 0} (eq : K → K → Bool) (same : (x y : K) → eq x y ≡ true → x ≡ y) where
  -- a new key goes last
  pub insert_absent : (es : List (K × V)) (k : K) (v : V) → (Holds (keys_of es) k → ⊥) → insert_entry eq es k v ≡ es ++ (k, v) ∷ []
  insert_absent [] k v new = refl
  insert_absent (e ∷ es) k v new =
      elim (cases_Bool (eq k e.0)) [
        | inl t ↦ absurd (new (inl (same k e.0 t)))
        | inr f ↦ rw f (ap (λ l. e ∷ l) (insert_absent es k v (λ h. new (inr h))))
      ]

-- where an item passes a test, the first that does stands within the list
first_within : {K : Type 0} (p : K → Bool) (xs : List K) (x : K) → Holds xs x → p x ≡ true → position_or_len p xs < length xs
first_within p [] x h t = absurd h
first_within p (y ∷ xs) x h t =
    elim (cases_Bool (p y)) [
      | inl yes_here ↦ rw yes_here (omega arith)
      | inr not_here ↦ elim h [
        | inl is ↦ absurd (clash (ap p (sym is) ∙ t) not_here)
        | inr rest ↦ let before = first_within p xs x rest t in rw not_here (omega arith)
      ]
    ]

some_position : (a b : ℕ) (r : Option ℕ) → r ≡ cond (nat_lt a b) (Some a) None → a < b → r ≡ None → ⊥
some_position a b r is h none = let e : nat_lt a b ≡ true = grind (arith, nat_tests) in cc

none_found : {K : Type 0} (p : K → Bool) (xs : List K) → position p xs ≡ None → (x : K) → p x ≡ true → Holds xs x → ⊥
none_found p xs none x t h = some_position (position_or_len p xs) (length xs) _ refl (first_within p xs x h t) none

key_is : {K V : Type 0} (es : List (K × V)) (i : ℕ) (k : K) → i < length (keys_of es) → get_or (keys_of es) i k ≡ k → (v : V) × (slice_get es i ≡ Some (k, v))
key_is [] i k h e = absurd (omega arith)
key_is (x ∷ es) zero k h e = (x.1, λ i. Some (e i, x.1))
key_is (x ∷ es) (suc i) k h e = key_is es i k (omega arith) e

-- what `insert` makes of the entries
pub pushed : (es now new : List (Arc × ℕ)) (k : Arc) (p : ℕ) → es ≡ now → new ≡ insert_entry arc_eq.eq-value.it es k p → (Holds (keys_of now) k → ⊥) → new ≡ now ++ (k, p) ∷ []
pushed es now new k p is made absent =
    made ∙ ap (λ xs. insert_entry arc_eq.eq-value.it xs k p) is ∙ insert_absent arc_eq.eq-value.it same_arc now k p absent

-- what `position` tells of a key
pub place_found : (es now : List (Arc × ℕ)) (k : Arc) (r : Option ℕ) → es ≡ now → r ≡ position (arc_eq.eq-value.it k) (keys_of es) → IfSome r (λ i. (p : ℕ) × (slice_get now i ≡ Some (k, p)))
place_found es now k None is e = tt
place_found es now k (Some i) is e =
    let found = position-Some (arc_eq.eq-value.it k) (keys_of es) i k (sym e) in
    subst (λ xs. (p : ℕ) × (slice_get xs i ≡ Some (k, p))) is (key_is es i k found.0 (sym (same_arc k _ found.1)))

pub place_none : (es now : List (Arc × ℕ)) (k : Arc) (r : Option ℕ) → es ≡ now → r ≡ position (arc_eq.eq-value.it k) (keys_of es) → IfNone r (Holds (keys_of now) k → ⊥)
place_none es now k None is e =
    λ h. none_found (arc_eq.eq-value.it k) (keys_of es) (sym e) k (arc_itself k) (subst (λ xs. Holds (keys_of xs) k) (sym is) h)
place_none es now k (Some i) is e = tt

-- ---- a class made of a trail

-- the key of an entry isn't among those before it
pub none_before : (es now : List (Arc × ℕ)) (i p : ℕ) (k : Arc) → now ≡ take i es → NoRepeats (keys_of es) → slice_get es i ≡ Some (k, p) → Holds (keys_of now) k → ⊥
none_before es now i p k is once stands h = before es i once stands (subst (λ xs. Holds (keys_of xs) k) is h) where
  before : (es : List (Arc × ℕ)) (i : ℕ) → NoRepeats (keys_of es) → slice_get es i ≡ Some (k, p) → Holds (keys_of (take i es)) k → ⊥
  before [] zero once stands h = h
  before [] (suc i) once stands h = h
  before (x ∷ es) zero once stands h = h
  before (x ∷ es) (suc i) once stands h =
      elim h [
        | inl same ↦ once.0 (subst (Holds (keys_of es)) same (key_at es i k p stands))
        | inr rest ↦ before es i once.1 stands rest
      ]

-- one entry more
pub one_more : (es now new : List (Arc × ℕ)) (i p : ℕ) (k : Arc) → now ≡ take i es → slice_get es i ≡ Some (k, p) → new ≡ now ++ (k, p) ∷ [] → new ≡ take (i + 1) es
one_more es now new i p k is stands made = made ∙ ap (λ xs. xs ++ (k, p) ∷ []) is ∙ more es i stands ∙ ap (λ n. take n es) next where
  next : suc i ≡ i + 1
  next = omega arith

  more : (es : List (Arc × ℕ)) (i : ℕ) → slice_get es i ≡ Some (k, p) → take i es ++ (k, p) ∷ [] ≡ take (suc i) es
  more [] i stands = cc
  more (x ∷ es) zero stands = ap (λ y. y ∷ []) (sym (same_some x (k, p) stands))
  more (x ∷ es) (suc i) stands = ap (λ ys. x ∷ ys) (more es i stands)

-- ---- the place of a key in a trail

-- the key stands at none of the first i places
pub record NoneBefore (es : List (Arc × ℕ)) (k : Arc) (i : ℕ) : Type 0 where
  pub none : (j p : ℕ) → j < i → slice_get es j ≡ Some (k, p) → ⊥

pub none_at_first : (es : List (Arc × ℕ)) (k : Arc) → NoneBefore es k 0
none_at_first es k = record { none = λ j p less _. absurd (omega arith) }

pub none_there : (es : List (Arc × ℕ)) (k : Arc) (i : ℕ) → length es ≤ i → NoneBefore es k i → Holds (keys_of es) k → ⊥
none_there es k i all before h =
    let place = place_of_key es k h in
    let within = place_within es place.0 _ place.2 in
    before.none place.0 place.1 (omega arith) place.2
