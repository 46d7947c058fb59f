-- The levels of a class are its levels: what is at a place of depth d is d direct forcings away from the first arc.
use Rattle.std.proofs.Common.{◌≡◌, ◌≢◌, ◌⊎◌, ◌↔◌, ℕ, zero, suc, ◌+◌, ◌-◌, ◌<◌, ◌≤◌, Bool, true, false, ◌==◌, nat_eq, List, [], ◌∷◌, ◌++◌, length, length-append, slice_get, Option, Some, None, refl, sym, ◌∙◌, ap, subst, inl, inr, arith}
use Rattle.std.proofs.lemmas.Bool.{cases_lt, cases_Bool, eqb-true, false_from_ne_true}
use Rattle.std.proofs.lemmas.Bool.Decides.{nat_tests}
use Rattle.std.specs.Map.{keys_of}
use Rattle.md_graph.proofs.SetLemmas.{clash}
use Rattle.md_forcing.specs.declared.arc.Arc.{Arc}
use Rattle.md_forcing.specs.Lists.{Holds}
use Rattle.md_forcing.specs.Forcing.{IsArc, ForcesDirectly}
use Rattle.md_forcing.specs.Classes.{IsAtDistance, IsClass}
use Rattle.md_forcing.proofs.ListLemmas.{get_some, get_left, get_of_append, key_at, one_place, place_of_key, place_within, same_some}
use Rattle.md_forcing.proofs.Reaching.{reached_arc, reaches_step}
use Rattle.md_forcing.proofs.Distances.{at_in_order, at_some, one_step}
use Rattle.md_levels.specs.Levels.{InLevel, InLevelTo, IsForcedFrom, AreLevels}
use Rattle.md_levels.specs.Depths.{entry_place, depth_within, depth, arcs_at, level, levels_to, levels_of}

-- the arc stands at a place so far from the first
abbrev pub StandsAt : List (Arc × ℕ) → ℕ → Arc → Type 0
StandsAt es d a = (k : ℕ) × (p : ℕ) × (slice_get es k ≡ Some (a, p)) × IsAtDistance es d k

-- ---- lists of levels

-- an item of the arcs at a depth
abbrev ListedAt : List (Arc × ℕ) → ℕ → ℕ → List (Arc × ℕ) → Arc → Type 0
ListedAt es d i xs a = (j : ℕ) × (p : ℕ) × (slice_get xs j ≡ Some (a, p)) × (depth es (i + j) ≡ d)

listed : (es : List (Arc × ℕ)) (d i : ℕ) (xs : List (Arc × ℕ)) (a : Arc) → Holds (arcs_at es d i xs) a → ListedAt es d i xs a
unfolding arcs_at
listed es d i [] a h = absurd h
listed es d i (x ∷ xs) a h =
    elim (cases_Bool (depth es i == d)) [
      | inl here ↦
          let h' : Holds (x.0 ∷ arcs_at es d (suc i) xs) a = rw here at h in
          elim h' [
            | inl same ↦ let P : ℕ → Type 0 = λ n. depth es n ≡ d in let e : i ≡ i + 0 = omega arith in (0, x.1, ap (λ y. Some (y, x.1)) (sym same), subst P e (eqb-true _ _ here))
            | inr rest ↦ shift (listed es d (suc i) xs a rest)
          ]
      | inr other ↦ shift (listed es d (suc i) xs a (rw other at h))
    ] where
      shift : ListedAt es d (suc i) xs a → ListedAt es d i (x ∷ xs) a
      shift l = let P : ℕ → Type 0 = λ n. depth es n ≡ d in let e : suc i + l.0 ≡ i + suc l.0 = omega arith in (suc l.0, l.1, l.2, subst P e l.3)

listed_back : (es : List (Arc × ℕ)) (d i : ℕ) (xs : List (Arc × ℕ)) (a : Arc) (j p : ℕ) → slice_get xs j ≡ Some (a, p) → depth es (i + j) ≡ d → Holds (arcs_at es d i xs) a
unfolding arcs_at
listed_back es d i [] a j p s far = cc
listed_back es d i (x ∷ xs) a zero p s far =
    let here : (depth es i == d) ≡ true = subst (λ n. (depth es n == d) ≡ true) (let e : i + 0 ≡ i = omega arith in e) (let t : (depth es (i + 0) == d) ≡ true = grind (arith, nat_tests, far) in t) in
    rw here (inl (ap (λ y. y.0) (sym (same_some x (a, p) s))))
listed_back es d i (x ∷ xs) a (suc j) p s far =
    let e : i + suc j ≡ suc i + j = omega arith in
    let rest = listed_back es d (suc i) xs a j p s (subst (λ n. depth es n ≡ d) e far) in
    elim (cases_Bool (depth es i == d)) [
      | inl here ↦ rw here (inr rest)
      | inr other ↦ rw other rest
    ]

here_first : (es : List (Arc × ℕ)) (d i : ℕ) (x : Arc × ℕ) (xs : List (Arc × ℕ)) → (depth es i == d) ≡ true → arcs_at es d i (x ∷ xs) ≡ x.0 ∷ arcs_at es d (suc i) xs
unfolding arcs_at
here_first es d i x xs here = rw here refl

holds_none : (l : List Arc) → ((a : Arc) → Holds l a → ⊥) → l ≡ []
holds_none [] none = refl
holds_none (x ∷ xs) none = absurd (none x (inl refl))

get_last : (xs : List (List Arc)) (y : List Arc) → slice_get (xs ++ y ∷ []) (length xs) ≡ Some y
get_last [] y = refl
get_last (x ∷ xs) y = get_last xs y

levels_many : (es : List (Arc × ℕ)) (n : ℕ) → length (levels_to es n) ≡ n
unfolding levels_to
levels_many es zero = refl
levels_many es (suc n) =
    let before = levels_many es n in
    let push : length (levels_to es n ++ level es n ∷ []) ≡ length (levels_to es n) + 1 = length-append _ _ in
    omega arith

level_there : (es : List (Arc × ℕ)) (n k : ℕ) → k < n → slice_get (levels_to es n) k ≡ Some (level es k)
unfolding levels_to
level_there es zero k less = absurd (omega arith)
level_there es (suc n) k less =
    elim (cases_lt k n) [
      | inl before ↦ get_left (levels_to es n) _ k (level es k) (level_there es n k before)
      | inr last ↦
          let here : k ≡ n = omega arith in
          subst (λ m. slice_get (levels_to es n ++ level es n ∷ []) m ≡ Some (level es m)) (sym here)
          (subst (λ m. slice_get (levels_to es n ++ level es n ∷ []) m ≡ Some (level es n)) (levels_many es n) (get_last (levels_to es n) (level es n)))
    ]

-- what stands in the list of levels is one of them
level_is : (es : List (Arc × ℕ)) (n k : ℕ) (list : List Arc) → slice_get (levels_to es n) k ≡ Some list → (k < n) × (list ≡ level es k)
level_is es n k list s =
    let many = levels_many es n in
    let within = place_within (levels_to es n) k list s in
    let less : k < n = omega arith in
    (less, same_some list (level es k) (sym s ∙ level_there es n k less))

-- ---- the levels of a class

module _ (e : ℕ → ℕ → Bool) (first : Arc) (es : List (Arc × ℕ)) (is : IsClass e first es) where
  depth_far : (b k : ℕ) → k ≤ b → k < length es → IsAtDistance es (depth_within es b k) k
  unfolding depth_within
  depth_far zero zero below within = refl
  depth_far zero (suc k) below within = absurd (omega arith)
  depth_far (suc b) zero below within = refl
  depth_far (suc b) (suc k) below within =
      let entry = get_some es (suc k) within in
      let forced = is.forced (suc k) entry.0.1 entry.0.0 (omega arith) entry.1 in
      let before = forced.before in
      let there : entry_place (slice_get es (suc k)) ≡ entry.0.1 = ap entry_place entry.1 in
      let far : IsAtDistance es (depth_within es b (entry_place (slice_get es (suc k)))) entry.0.1 =
      subst (λ q. IsAtDistance es (depth_within es b q) entry.0.1) (sym there) (depth_far b entry.0.1 (omega arith) (omega arith))
      in
      (omega arith, entry.0.1, entry.0.0, entry.1, far)

  same_far : (n m k : ℕ) → IsAtDistance es n k → IsAtDistance es m k → n ≡ m
  same_far n m k near far =
      let up = at_in_order e first es is n m k k (omega arith) near far in
      let down = at_in_order e first es is m n k k (omega arith) far near in
      omega arith

  abbrev farthest : ℕ
  farthest = depth es (length es - 1)

  some_entry : 0 < length es
  some_entry = place_within es 0 (first, 0) is.begins

  last_far : IsAtDistance es farthest (length es - 1)
  last_far = let some = some_entry in depth_far (length es - 1) (length es - 1) (omega arith) (omega arith)

  pub in_level : (d : ℕ) (a : Arc) → InLevel (levels_of es) d a → StandsAt es d a
  unfolding levels_of
  in_level d a h =
      let (list, s, holds) = h in
      let told = level_is es (suc farthest) d list s in
      let (j, p, t, far) = listed es d 0 es a (subst (λ l. Holds l a) told.1 holds) in
      let within = place_within es j (a, p) t in
      let same : 0 + j ≡ j = omega arith in
      (j, p, t, subst (λ n. IsAtDistance es n j) (ap (depth es) (sym same) ∙ far) (depth_far j j (omega arith) within))

  pub of_stands : (d : ℕ) (a : Arc) → StandsAt es d a → InLevel (levels_of es) d a
  unfolding levels_of
  of_stands d a h =
      let (k, p, s, far) = h in
      let within = place_within es k (a, p) s in
      let some = some_entry in
      let low = at_in_order e first es is d farthest k (length es - 1) (omega arith) far last_far in
      let same : k ≡ 0 + k = omega arith in
      let is_far : depth es k ≡ d = same_far (depth es k) d k (depth_far k k (omega arith) within) far in
      (level es d, level_there es (suc farthest) d (omega arith), listed_back es d 0 es a k p s (ap (depth es) (sym same) ∙ is_far))

  -- some arc is at each distance up to one that is there
  some_at : (d m l : ℕ) → l < length es → IsAtDistance es m l → d ≤ m → (a : Arc) × StandsAt es d a
  some_at d zero l within far low =
      let entry = get_some es l within in
      let here : d ≡ 0 = omega arith in
      (entry.0.0, (l, entry.0.1, entry.1, subst (λ n. IsAtDistance es n l) (sym here) far))
  some_at d (suc m) l within far low =
      let (above, p, a, s, rest) = far in
      let before = (is.forced l p a above s).before in
      elim (cases_lt d (suc m)) [
        | inl less ↦ some_at d m p (omega arith) rest (omega arith)
        | inr last ↦ let here : d ≡ suc m = omega arith in (a, (l, p, s, subst (λ n. IsAtDistance es n l) (sym here) far))
      ]

  no_depth : (depth es 0 == 0) ≡ true
  unfolding depth_within
  no_depth = refl

  later_far : (j p : ℕ) (a : Arc) → slice_get es (suc j) ≡ Some (a, p) → depth es (suc j) ≡ 0 → ⊥
  later_far j p a s none =
      let within = place_within es (suc j) (a, p) s in
      let far : IsAtDistance es 0 (suc j) = subst (λ n. IsAtDistance es n (suc j)) none (depth_far (suc j) (suc j) (omega arith) within) in
      let here : suc j ≡ 0 = far in
      omega arith

  first_level : (l : List (Arc × ℕ)) → es ≡ l → level es 0 ≡ first ∷ []
  first_level [] same = let begins : slice_get {X = Arc × ℕ} [] 0 ≡ Some (first, 0) = subst (λ l. slice_get l 0 ≡ Some (first, 0)) same is.begins in cc
  first_level (x ∷ xs) same =
      let begins : slice_get (x ∷ xs) 0 ≡ Some (first, 0) = subst (λ l. slice_get l 0 ≡ Some (first, 0)) same is.begins in
      let head : x.0 ≡ first = ap (λ y. y.0) (same_some x (first, 0) begins) in
      let none : arcs_at es 0 1 xs ≡ [] = holds_none _ (λ a h.
      let (j, p, s, far) = listed es 0 1 xs a h in
      let next : 1 + j ≡ suc j = omega arith in
      later_far j p a (subst (λ l. slice_get l (suc j) ≡ Some (a, p)) (sym same) s) (ap (depth es) (sym next) ∙ far)) in
      ap (arcs_at es 0 0) same ∙ here_first es 0 0 x xs no_depth ∙ ap (λ l. x.0 ∷ l) none ∙ ap (λ y. y ∷ []) head

  begins_is : slice_get (levels_of es) 0 ≡ Some (first ∷ [])
  unfolding levels_of
  begins_is = level_there es (suc farthest) 0 (omega arith) ∙ ap Some (first_level es refl)

  next_to : (k : ℕ) (b : Arc) → InLevel (levels_of es) (suc k) b → IsArc e b × IsForcedFrom e (levels_of es) k b × (InLevelTo (levels_of es) k b → ⊥)
  next_to k b h =
      let (l, p, s, far) = in_level (suc k) b h in
      let (above, q, c, t, rest) = far in
      let forced = is.forced l p b above s in
      let same : q ≡ p = ap (λ x. x.1) (same_some (c, q) (b, p) (sym t ∙ s)) in
      let from : IsForcedFrom e (levels_of es) k b = (forced.by, of_stands k forced.by (p, forced.its_place, forced.stands, subst (IsAtDistance es k) same rest), forced.forces) in
      let not_before : InLevelTo (levels_of es) k b → ⊥ = λ to.
      let (j, low, there) = to in
      let (m, r, u, near) = in_level j b there in
      let place : m ≡ l = one_place es m l b r p is.once u s in
      let level_same : j ≡ suc k = same_far j (suc k) l (subst (IsAtDistance es j) place near) far in
      omega arith
      in
      (reached_arc e first b ((is.reached b).0 (key_at es l b p s)), from, not_before)

  next_from : (k : ℕ) (b : Arc) → IsArc e b → IsForcedFrom e (levels_of es) k b → (InLevelTo (levels_of es) k b → ⊥) → InLevel (levels_of es) (suc k) b
  next_from k b arc from none =
      let (a, there, f) = from in
      let (l, p, s, near) = in_level k a there in
      let reached = reaches_step e first a b ((is.reached a).0 (key_at es l a p s)) arc f in
      let place = place_of_key es b ((is.reached b).1 reached) in
      let within = place_within es place.0 _ place.2 in
      let away = at_some e first es is (suc place.0) place.0 (omega arith) within in
      let low = one_step e first es is k away.0 l place.0 p place.1 a b s place.2 f near away.1 in
      elim (cases_lt away.0 (suc k)) [
        | inl less ↦ absurd (none (away.0, omega arith, of_stands away.0 b (place.0, place.1, place.2, away.1)))
        | inr not_less ↦
            let same : away.0 ≡ suc k = omega arith in
            of_stands (suc k) b (place.0, place.1, place.2, subst (λ n. IsAtDistance es n place.0) same away.1)
      ]

  nonempty_is : (k : ℕ) (list : List Arc) → slice_get (levels_of es) k ≡ Some list → list ≢ []
  unfolding levels_of
  nonempty_is k list s none =
      let told = level_is es (suc farthest) k list s in
      let less = told.0 in
      let some = some_entry in
      let there = some_at k farthest (length es - 1) (omega arith) last_far (omega arith) in
      let (l, p, t, far) = there.1 in
      let within = place_within es l (there.0, p) t in
      let same : l ≡ 0 + l = omega arith in
      let is_far : depth es l ≡ k = same_far (depth es l) k l (depth_far l l (omega arith) within) far in
      let held = listed_back es k 0 es there.0 l p t (ap (depth es) (sym same) ∙ is_far) in
      subst (λ x. Holds x there.0) (sym told.1 ∙ none) held

  pub class_levels : AreLevels e first (levels_of es)
  class_levels = record {
    begins = begins_is;
    next = λ k b. (next_to k b, λ h. next_from k b h.0 h.1 h.2);
    nonempty = nonempty_is;
  }
