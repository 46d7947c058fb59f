-- What `contains` answers of each set of names, one way and back, and the orders of sets.
use Rattle.std.proofs.Common.{◌≡◌, ◌↔◌, ℕ, ◌<◌, not, arith, Option, Some, None, is_some, IfSome, IfNone, Bool, true, false, ◌≢◌, ◌⊎◌, refl, sym, ◌∙◌, ap, subst, inl, inr, true≢false, eqb-true, eq-eqb, ltb, ltb-true, ltb-false, ◌≤◌, nat_eq}
use Rattle.std.proofs.lemmas.Bool.{cases_Bool, true_from_ne_false, false_from_ne_true, or_cases, or_parts, or_left, or_right, or_from, and_parts, and_cases, and_from, and_left, and_right, not-true, not-false, not_from_false, not_from_true}
-- two numbers are equal or not
pub use Rattle.std.proofs.lemmas.Bool.{cases_eq as same_name}
use Rattle.std.specs.FinSet.{contains, empty, insert, remove, retain, union, intersection, difference, contains-empty, contains-insert, contains-remove, contains-retain, contains-union, contains-intersection, contains-difference, same_set, nat_cmp-IsAntisymmetric}
use Rattle.std.specs.Cmp.{both_ways, nat_cmp_total, unsigned_tied}
use Rattle.std.specs.Ordering.{nat_cmp, eq_by_cmp}
use Rattle.md_graph.specs.Sets.{NameSet, Has, Lacks, Within, Disjoint, only_name}
use Rattle.md_graph.specs.NameSet.{IsLeastFrom, NoneFrom, symmetric_difference}

pub clash : {A : Type 0} {b : Bool} → b ≡ true → b ≡ false → A
clash p q = absurd (true≢false (sym p ∙ q))

-- equal tests of numbers
pub tied : (q k : ℕ) → eq_by_cmp nat_cmp q k ≡ true → q ≡ k
tied q k h = eqb-true q k (sym (unsigned_tied q k) ∙ h)

pub tie : (q k : ℕ) → q ≡ k → eq_by_cmp nat_cmp q k ≡ true
tie q k h = unsigned_tied q k ∙ eq-eqb q k h

pub ascending_or_not : (a d : ℕ) → a ≢ d → (a < d) ⊎ (d < a)
ascending_or_not a d n =
    elim (cases_Bool (ltb a d)) [
      | inl h ↦ inl (ltb-true a d h)
      | inr h ↦ let le : d ≤ a = ltb-false a d h in inr (omega arith)
    ]

pub same_turned : (x y : ℕ) → nat_eq x y ≡ nat_eq y x
same_turned x y =
    elim (cases_Bool (nat_eq x y)) [
      | inl h ↦ h ∙ sym (eq-eqb y x (sym (eqb-true x y h)))
      | inr l ↦ l ∙ sym (false_from_ne_true (nat_eq y x) (λ h. clash (eq-eqb x y (sym (eqb-true y x h))) l))
    ]

-- the empty set
pub empty_lacks : (q : ℕ) → Lacks empty q
empty_lacks q = contains-empty nat_cmp q

-- one more member
pub insert_new : (s : NameSet) (k : ℕ) → Has (insert s k) k
insert_new s k = contains-insert nat_cmp_total s k k ∙ or_left _ _ (tie k k refl)

pub insert_old : (s : NameSet) (k q : ℕ) → Has s q → Has (insert s k) q
insert_old s k q h = contains-insert nat_cmp_total s k q ∙ or_right _ _ h

pub of_insert : (s : NameSet) (k q : ℕ) → Has (insert s k) q → (q ≡ k) ⊎ Has s q
of_insert s k q h = elim (or_cases _ _ (sym (contains-insert nat_cmp_total s k q) ∙ h)) [ inl e ↦ inl (tied q k e) | inr m ↦ inr m ]

pub insert_lacks : (s : NameSet) (k q : ℕ) → q ≢ k → Lacks s q → Lacks (insert s k) q
insert_lacks s k q n h = contains-insert nat_cmp_total s k q ∙ or_from _ _ (false_from_ne_true _ (λ e. n (tied q k e))) h

-- one member fewer
pub remove_gone : (s : NameSet) (k : ℕ) → Lacks (remove s k) k
remove_gone s k = contains-remove nat_cmp_total s k k ∙ and_left _ _ (not_from_true _ (tie k k refl))

pub remove_left : (s : NameSet) (k q : ℕ) → q ≢ k → Has s q → Has (remove s k) q
remove_left s k q n h = contains-remove nat_cmp_total s k q ∙ and_from _ _ (not_from_false _ (false_from_ne_true _ (λ e. n (tied q k e)))) h

pub of_remove : (s : NameSet) (k q : ℕ) → Has (remove s k) q → (q ≢ k) × Has s q
of_remove s k q h =
    let parts : (_ : _) × _ = and_parts _ _ (sym (contains-remove nat_cmp_total s k q) ∙ h) in
    (λ e. clash (tie q k e) (not-true _ parts.0), parts.1)

-- the members that pass a test
pub retain_has : (s : NameSet) (p : ℕ → Bool) (q : ℕ) → Has s q → p q ≡ true → Has (retain s p) q
retain_has s p q h k = contains-retain s p q (λ x e. ap p (sym (nat_cmp-IsAntisymmetric q x e))) ∙ and_from _ _ h k

pub of_retain : (s : NameSet) (p : ℕ → Bool) (q : ℕ) → Has (retain s p) q → Has s q × (p q ≡ true)
of_retain s p q h = and_parts _ _ (sym (contains-retain s p q (λ x e. ap p (sym (nat_cmp-IsAntisymmetric q x e)))) ∙ h)

pub retain_lacks : (s : NameSet) (p : ℕ → Bool) (q : ℕ) → p q ≡ false → Lacks (retain s p) q
retain_lacks s p q k = contains-retain s p q (λ x e. ap p (sym (nat_cmp-IsAntisymmetric q x e))) ∙ and_right _ _ k

pub of_retain_lacks : (s : NameSet) (p : ℕ → Bool) (q : ℕ) → Has s q → Lacks (retain s p) q → p q ≡ false
of_retain_lacks s p q h l = false_from_ne_true _ (λ k. clash (retain_has s p q h k) l)

-- a union
pub union_left : (s t : NameSet) (q : ℕ) → Has s q → Has (union s t) q
union_left s t q h = contains-union nat_cmp_total s t q ∙ or_left _ _ h

pub union_right : (s t : NameSet) (q : ℕ) → Has t q → Has (union s t) q
union_right s t q h = contains-union nat_cmp_total s t q ∙ or_right _ _ h

pub of_union : (s t : NameSet) (q : ℕ) → Has (union s t) q → Has s q ⊎ Has t q
of_union s t q h = or_cases _ _ (sym (contains-union nat_cmp_total s t q) ∙ h)

pub of_union_lacks : (s t : NameSet) (q : ℕ) → Lacks (union s t) q → Lacks s q × Lacks t q
of_union_lacks s t q h = or_parts _ _ (sym (contains-union nat_cmp_total s t q) ∙ h)

pub union_lacks : (s t : NameSet) (q : ℕ) → Lacks s q → Lacks t q → Lacks (union s t) q
union_lacks s t q h k = contains-union nat_cmp_total s t q ∙ or_from _ _ h k

-- an intersection
pub meet_has : (s t : NameSet) (q : ℕ) → Has s q → Has t q → Has (intersection s t) q
meet_has s t q h k = contains-intersection nat_cmp_total s t q ∙ and_from _ _ h k

pub of_meet : (s t : NameSet) (q : ℕ) → Has (intersection s t) q → Has s q × Has t q
of_meet s t q h = and_parts _ _ (sym (contains-intersection nat_cmp_total s t q) ∙ h)

pub of_meet_lacks : (s t : NameSet) (q : ℕ) → Lacks (intersection s t) q → Lacks s q ⊎ Lacks t q
of_meet_lacks s t q h = and_cases _ _ (sym (contains-intersection nat_cmp_total s t q) ∙ h)

-- a difference
pub minus_has : (s t : NameSet) (q : ℕ) → Has s q → Lacks t q → Has (difference s t) q
minus_has s t q h k = contains-difference nat_cmp_total s t q ∙ and_from _ _ h (not_from_false _ k)

pub of_minus : (s t : NameSet) (q : ℕ) → Has (difference s t) q → Has s q × Lacks t q
of_minus s t q h =
    let two : (_ : _) × _ = and_parts _ _ (sym (contains-difference nat_cmp_total s t q) ∙ h) in
    (two.0, not-true _ two.1)

pub of_minus_lacks : (s t : NameSet) (q : ℕ) → Lacks (difference s t) q → Lacks s q ⊎ Has t q
of_minus_lacks s t q h =
    elim (and_cases _ _ (sym (contains-difference nat_cmp_total s t q) ∙ h)) [ inl a ↦ inl a | inr b ↦ inr (not-false _ b) ]

pub minus_lacks : (s t : NameSet) (q : ℕ) → Has t q → Lacks (difference s t) q
minus_lacks s t q h = contains-difference nat_cmp_total s t q ∙ and_right _ _ (not_from_true _ h)

-- the set of one member
pub only_has : (v : ℕ) → Has (only_name v) v
only_has v = insert_new empty v

pub of_only : (v q : ℕ) → Has (only_name v) q → q ≡ v
of_only v q h = elim (of_insert empty v q h) [ inl e ↦ e | inr m ↦ clash m (empty_lacks q) ]

pub only_lacks : (v q : ℕ) → q ≢ v → Lacks (only_name v) q
only_lacks v q n = insert_lacks empty v q n (empty_lacks q)

-- sets with the same members are equal
pub same_members : (s t : NameSet) → Within s t → Within t s → s ≡ t
same_members s t f g = same_set nat_cmp_total nat_cmp-IsAntisymmetric s t (λ q. both_ways _ _ (f q) (g q))

pub Has-along : (s t : NameSet) → s ≡ t → Within s t
Has-along s t e x h = subst (λ w. Has w x) e h

pub Within-refl : (s : NameSet) → Within s s
Within-refl s x h = h

pub Within-trans : (a b c : NameSet) → Within a b → Within b c → Within a c
Within-trans a b c f g x h = g x (f x h)

-- what a smaller set lacks
pub lacks_within : (s t : NameSet) → Within s t → (x : ℕ) → Lacks t x → Lacks s x
lacks_within s t f x l = false_from_ne_true _ (λ h. clash (f x h) l)

pub remove_insert : (s : NameSet) (k : ℕ) → Has s k → insert (remove s k) k ≡ s
remove_insert s k h = same_members _ _
    (λ q m. elim (of_insert _ k q m) [ inl e ↦ subst (Has s) (sym e) h | inr r ↦ (of_remove s k q r).1 ])
    (λ q m. elim (same_name q k) [ inl e ↦ subst (Has (insert (remove s k) k)) (sym e) (insert_new _ k) | inr n ↦ insert_old _ k q (remove_left s k q n m) ])

pub insert_within : (s t : NameSet) (k : ℕ) → Within s t → Has t k → Within (insert s k) t
insert_within s t k f h q m = elim (of_insert s k q m) [ inl e ↦ subst (Has t) (sym e) h | inr r ↦ f q r ]

pub insert_known : (s : NameSet) (k : ℕ) → Has s k → insert s k ≡ s
insert_known s k h = same_members _ _ (insert_within s s k (Within-refl s) h) (λ q. insert_old s k q)

-- ---- sets by equations

pub remove_is : (s : NameSet) (x : ℕ) → remove s x ≡ difference s (only_name x)
remove_is s x = same_members _ _
    (λ q h. minus_has s (only_name x) q (of_remove s x q h).1 (only_lacks x q (of_remove s x q h).0))
    (λ q h. remove_left s x q (λ e. clash (subst (Has (only_name x)) (sym e) (only_has x)) (of_minus s (only_name x) q h).1) (of_minus s (only_name x) q h).0)

pub none_lacks : (s : NameSet) → NoneFrom s 0 → (y : ℕ) → Lacks s y
none_lacks s none y = false_from_ne_true _ (λ h. let b : y < 0 = none y h in omega arith)

pub empty_if : (s : NameSet) → s ≡ empty → (y : ℕ) → Lacks s y
empty_if s e y = ap (λ t. contains t y) e ∙ empty_lacks y

pub if_empty : (s : NameSet) → ((y : ℕ) → Lacks s y) → s ≡ empty
if_empty s none = same_members s empty (λ y h. clash h (none y)) (λ y h. clash h (empty_lacks y))

-- a set that took in another one, and had no member before
pub taken_whole : (s none t : NameSet) → none ≡ empty → t ≡ union none s → t ≡ s
taken_whole s none t is_none is = is ∙ same_members _ _
    (λ y h. elim (of_union none s y h) [ inl o ↦ clash o (empty_if none is_none y) | inr i ↦ i ])
    (λ y h. union_right none s y h)

-- what is told apart from a set is the rest of it, for a part
pub flipped_part : (s t : NameSet) → Within t s → symmetric_difference t s ≡ difference s t
flipped_part s t inside = same_members _ _
    (λ y h. elim (of_union (difference t s) (difference s t) y h) [
      | inl o ↦ let two : Has t y × Lacks s y = of_minus t s y o in clash (inside y two.0) two.1
      | inr i ↦ i
    ])
    (λ y h. union_right (difference t s) (difference s t) y h)

pub flipped_along : (s t u : NameSet) → Within t s → u ≡ symmetric_difference t s → u ≡ difference s t
flipped_along s t u inside is = is ∙ flipped_part s t inside

pub lacks_along : (s t : NameSet) → s ≡ t → (y : ℕ) → Lacks t y → Lacks s y
lacks_along s t e y l = ap (λ w. contains w y) e ∙ l

pub along_two : (P : NameSet → NameSet → Type 0) (a b a' b' : NameSet) → a' ≡ a → b' ≡ b → P a b → P a' b'
along_two P a b a' b' ea eb p = subst (P a') (sym eb) (subst (λ t. P t b) (sym ea) p)

-- to leave out t is to leave out what is in t
pub minus_shared : (s t : NameSet) → difference s t ≡ difference s (intersection s t)
minus_shared s t = same_members _ _
    (λ q h. let two : Has s q × Lacks t q = of_minus s t q h in minus_has s (intersection s t) q two.0 (false_from_ne_true _ (λ k. clash (of_meet s t q k).1 two.1)))
    (λ q h. let two : Has s q × Lacks (intersection s t) q = of_minus s (intersection s t) q h in minus_has s t q two.0 (false_from_ne_true _ (λ k. clash (meet_has s t q two.0 k) two.1)))

-- to keep what is in t is to leave out the rest
pub meet_unshared : (s t : NameSet) → intersection s t ≡ difference s (difference s t)
meet_unshared s t = same_members _ _
    (λ q h. let two : Has s q × Has t q = of_meet s t q h in minus_has s (difference s t) q two.0 (false_from_ne_true _ (λ k. clash two.1 (of_minus s t q k).1)))
    (λ q h. let two : Has s q × Lacks (difference s t) q = of_minus s (difference s t) q h in meet_has s t q two.0 (true_from_ne_false _ (λ l. clash (minus_has s t q two.0 l) two.1)))

pub union_along : (a b new t : NameSet) → b ≡ a → t ≡ union b new → t ≡ union a new
union_along a b new t is e = e ∙ ap (λ s. union s new) is

pub minus_twice : (s left into : NameSet) → Within left s → into ≡ difference s left → difference s into ≡ left
minus_twice s left into part is = same_members _ _
    (λ y h.
    let two : Has s y × Lacks into y = of_minus s into y h in
    true_from_ne_false _ (λ l. clash (Has-along _ _ (sym is) y (minus_has s left y two.0 l)) two.1))
    (λ y h. minus_has s into y (part y h) (lacks_along into _ is y (minus_lacks s left y h)))

pub pair_within : (s begun : NameSet) (u v : ℕ) → begun ≡ insert (only_name u) v → Has s u → Has s v → Within begun s
pair_within s begun u v is hu hv y h = elim (of_insert (only_name u) v y (Has-along _ _ is y h)) [
  | inl same ↦ subst (Has s) (sym same) hv
  | inr old ↦ subst (Has s) (sym (of_only u y old)) hu
]

pub pair_among : (begun todo : NameSet) (u v : ℕ) → begun ≡ insert (only_name u) v → todo ≡ only_name v → Within todo begun
pair_among begun todo u v is is_todo y h =
    Has-along _ _ (sym is) y (subst (Has (insert (only_name u) v)) (sym (of_only v y (Has-along _ _ is_todo y h))) (insert_new (only_name u) v))

pub pair_first : (begun : NameSet) (u v : ℕ) → begun ≡ insert (only_name u) v → Has begun u
pair_first begun u v is = Has-along _ _ (sym is) u (insert_old (only_name u) v u (only_has u))

-- what exactly one of a set and another one has, in the first, is what the other one leaves of it
pub rest_told : (s c : NameSet) → intersection s (symmetric_difference c s) ≡ difference s c
rest_told s c = same_members _ _
    (λ y h. let two : Has s y × Has (symmetric_difference c s) y = of_meet s (symmetric_difference c s) y h in elim (of_union (difference c s) (difference s c) y two.1) [
      | inl o ↦ clash two.0 (of_minus c s y o).1
      | inr i ↦ i
    ])
    (λ y h. meet_has s (symmetric_difference c s) y (of_minus s c y h).0 (union_right (difference c s) (difference s c) y h))

-- a set without a part of it
pub flipped_off : (rest c rest' : NameSet) → Within c rest → rest' ≡ symmetric_difference rest c → rest' ≡ difference rest c
flipped_off rest c rest' inside is = is ∙ same_members _ _
    (λ y h. elim (of_union (difference rest c) (difference c rest) y h) [
      | inl i ↦ i
      | inr o ↦ let two : Has c y × Lacks rest y = of_minus c rest y o in clash (inside y two.0) two.1
    ])
    (λ y h. union_left (difference rest c) (difference c rest) y h)

-- the names that row lacks as a part: its names, and the others
pub rest_in : (c row : NameSet) → difference c row ≡ intersection c (difference c row)
rest_in c row = same_members _ _
    (λ x h. meet_has c (difference c row) x (of_minus c row x h).0 h)
    (λ x h. (of_meet c (difference c row) x h).1)

-- ---- the sets of a search: left is what it hasn't taken, todo what it took and hasn't looked at

-- what is taken anew, where nothing else is kept
pub only_new : (left new none : NameSet) → none ≡ empty → Within new left → union none (intersection left new) ≡ new
only_new left new none is inside = same_members _ _
    (λ y h. elim (of_union none (intersection left new) y h) [ inl o ↦ clash o (empty_if none is y) | inr i ↦ (of_meet left new y i).1 ])
    (λ y h. union_right none (intersection left new) y (meet_has left new y (inside y h) h))

pub rest_apart_from : (left todo todo' : NameSet) (w : ℕ) → todo' ≡ remove todo w → Disjoint left todo → Disjoint left todo'
rest_apart_from left todo todo' w is apart y h =
    lacks_along todo' _ is y (lacks_within (remove todo w) todo (λ z k. (of_remove todo w z k).1) y (apart y h))

-- a name that is out of the new todo is out of the old one, or was looked at, and wasn't taken in this turn
pub looked_at : (todo new : NameSet) (w y : ℕ) → Lacks (union (remove todo w) new) y → Lacks new y × ((y ≡ w) ⊎ Lacks todo y)
looked_at todo new w y l =
    let two : Lacks (remove todo w) y × Lacks new y = of_union_lacks (remove todo w) new y l in
    (two.1, elim (same_name y w) [ inl same ↦ inl same | inr differs ↦ inr (false_from_ne_true _ (λ h. clash (remove_left todo w y differs h) two.0)) ])

-- the parts that a turn leaves
pub rest_lacks : (left new : NameSet) (y : ℕ) → Lacks left y → Lacks (difference left new) y
rest_lacks left new y l = lacks_within (difference left new) left (λ z h. (of_minus left new z h).0) y l

pub taken_then : (s left todo new : NameSet) (w : ℕ) → Within left s → ((y : ℕ) → Has todo y → Has s y × Lacks left y) → ((y : ℕ) → Has new y → Has left y) →
    (y : ℕ) → Has (union (remove todo w) new) y → Has s y × Lacks (difference left new) y
taken_then s left todo new w inside taken of_new y h =
    elim (of_union (remove todo w) new y h) [
      | inl i ↦ let t : Has s y × Lacks left y = taken y (of_remove todo w y i).1 in (t.0, rest_lacks left new y t.1)
      | inr j ↦ (inside y (of_new y j), minus_lacks left new y j)
    ]

pub told_value : (row mark : NameSet) (value : Bool) (y : ℕ) → contains mark y ≡ not value → Has (symmetric_difference row mark) y → contains row y ≡ value
told_value row mark true y is h = elim (of_union (difference row mark) (difference mark row) y h) [
  | inl i ↦ (of_minus row mark y i).0
  | inr i ↦ clash (of_minus mark row y i).0 is
]
told_value row mark false y is h = elim (of_union (difference row mark) (difference mark row) y h) [
  | inl i ↦ clash is (of_minus row mark y i).1
  | inr i ↦ (of_minus mark row y i).1
]

pub value_told : (row mark : NameSet) (value : Bool) (y : ℕ) → contains mark y ≡ not value → contains row y ≡ value → Has (symmetric_difference row mark) y
value_told row mark true y is here = union_left (difference row mark) (difference mark row) y (minus_has row mark y here is)
value_told row mark false y is here = union_right (difference row mark) (difference mark row) y (minus_has mark row y is here)

pub meet_inside : (part live vertices within : NameSet) → live ≡ vertices → within ≡ intersection part live → Within within vertices
meet_inside part live vertices within same is y h = Has-along _ _ same y (of_meet part live y (Has-along _ _ is y h)).1

-- ---- sets that agree on others

pub agree_test : (s first second : NameSet) (found : Option ℕ) (r : Bool) →
    IfSome found (IsLeastFrom (intersection s (symmetric_difference first second)) 0) → IfNone found (NoneFrom (intersection s (symmetric_difference first second)) 0) →
    is_some found ≡ not r → (r ≡ true) ↔ ((y : ℕ) → Has s y → contains first y ≡ contains second y)
agree_test s first second (Some least) r some none is = (
  λ t. clash t (not-true r (sym is)),
  λ agree.
      let two = of_meet s (symmetric_difference first second) least some.member in
      elim (of_union _ _ least two.1) [
        | inl a ↦ (let l = of_minus first second least a in clash (sym (agree least two.0) ∙ l.0) l.1)
        | inr b ↦ (let l = of_minus second first least b in clash (agree least two.0 ∙ l.0) l.1)
      ],
)
agree_test s first second None r some none is = (
  λ t y h. both_ways (contains first y) (contains second y)
      (λ f. elim (cases_Bool (contains second y)) [
        | inl g ↦ g
        | inr l ↦ clash (meet_has s (symmetric_difference first second) y h (union_left _ _ y (minus_has first second y f l))) (none_lacks _ none y)
      ])
      (λ g. elim (cases_Bool (contains first y)) [
        | inl f ↦ f
        | inr l ↦ clash (meet_has s (symmetric_difference first second) y h (union_right _ _ y (minus_has second first y g l))) (none_lacks _ none y)
      ]),
  λ agree. not-false r (sym is),
)
