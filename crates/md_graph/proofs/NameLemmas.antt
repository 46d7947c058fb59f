-- Facts of sets of names that callers may cite: what the ascending list of a set's members holds.
use Rattle.std.proofs.Common.{◌≡◌, ℕ, zero, suc, ◌+◌, ◌-◌, ◌<◌, ◌≤◌, ◌≢◌, Bool, true, false, ◌&&◌, ◌||◌, if◌then◌else◌, ◌==◌, nat_le, List, [], ◌∷◌, ◌++◌, length, get_or, add-one, append_assoc, append-nil, length-append, refl, arith, ap, sym, ◌∙◌, subst, inl, inr, ltb, lit<, All, Contains, AllPairs, take}
use Rattle.std.proofs.lemmas.Bool.{cases_Bool, cases_lt, false_from_ne_true}
use Rattle.std.proofs.lemmas.Bool.Decides.{nat_tests}
use Rattle.std.proofs.lemmas.List.Elements.{All-nil, All-push, All-weaker, Contains-append_left, Contains-append_right}
use Rattle.std.proofs.lemmas.List.Quantifiers.{all_pairs_push}
use Rattle.std.specs.Cmp.{nat_cmp_total}
use Rattle.std.specs.List.Sorted.{IsStrictlyIncreasing}
use Rattle.std.specs.FinSet.{nat_cmp-IsAntisymmetric}
use Rattle.std.specs.FinSet as set
use Rattle.std.proofs.lemmas.List.{take_more}
use Rattle.md_graph.specs.Sets.{NameSet, Has, only_name}
use Rattle.md_graph.specs.NameSet.{IsLeastFrom, AllBelow, ascending_between}
use Rattle.md_graph.proofs.SetLemmas.{same_members, only_has, of_only}
use Rattle.md_graph.proofs.SetLaws.{contains-empty, contains-insert, contains-retain, len-empty, len-insert, same_set}

-- the rest of an ascending list
pub increases_rest : (x : ℕ) (xs : List ℕ) → IsStrictlyIncreasing (x ∷ xs) → IsStrictlyIncreasing xs
increases_rest x xs h k below =
    let first = next k in
    let second = next (k + 1) in
    let step = h (k + 1) (omega arith) in
    omega arith
  where
    next : (i : ℕ) → get_or (x ∷ xs) (i + 1) 0 ≡ get_or xs i 0
    next i = rw add-one refl

-- ---- the first item

-- what holds of the first item of the members of s from low on and below n, or of there being none
pub record IsFirstItem (s : NameSet) (low n x : ℕ) : Type 0 where
  pub member : Has s x
  pub above : low ≤ x
  pub below : x < n
  pub first : (w : ℕ) → Has s w → low ≤ w → w < n → x ≤ w

abbrev pub BeginsWith : NameSet → ℕ → ℕ → List ℕ → Type 0
BeginsWith s low n [] = (w : ℕ) → Has s w → low ≤ w → w < n → ⊥
BeginsWith s low n (x ∷ xs) = IsFirstItem s low n x

abbrev test : NameSet → ℕ → ℕ → Bool
test s low n = nat_le low n && set.contains s n

last_of : (s : NameSet) (low n : ℕ) → test s low n ≡ true → (Has s n) × (low ≤ n)
last_of s low n h = grind (arith, nat_tests)

not_last : (s : NameSet) (low n w : ℕ) → test s low n ≡ false → Has s w → low ≤ w → w < suc n → w < n
not_last s low n w h m l below = grind (arith, nat_tests)

least_here : (s : NameSet) (low n w : ℕ) → (w < n → ⊥) → n ≤ w
least_here s low n w none = grind arith

at_most_last : (x n w : ℕ) → w < suc n → x < n → (w < n → x ≤ w) → x ≤ w
at_most_last x n w below last is = grind arith

under : (low w : ℕ) → (low ≤ w → ⊥) → w < low
under low w none = grind arith

begins_step : (s : NameSet) (low n : ℕ) (xs : List ℕ) → BeginsWith s low n xs → BeginsWith s low (suc n) (xs ++ (if test s low n then n ∷ [] else []))
begins_step s low n [] none =
    elim (test s low n) as (λ b. test s low n ≡ b → BeginsWith s low (suc n) (if b then n ∷ [] else [])) [
      | true ↦ λ e.
          let last = last_of s low n e in
          record { member = last.0; above = last.1; below = omega arith; first = λ w m l _. least_here s low n w (none w m l) }
      | false ↦ λ e w m l below. none w m l (not_last s low n w e m l below)
    ] refl
begins_step s low n (x ∷ xs) is = record {
  member = is.member;
  above = is.above;
  below = (let h = is.below in omega arith);
  first = λ w m l below. at_most_last x n w below is.below (is.first w m l);
}

pub ascending_begins : (s : NameSet) (low n : ℕ) → BeginsWith s low n (ascending_between s low n)
unfolding ascending_between
ascending_begins s low zero = λ w m l below. omega arith
ascending_begins s low (suc n) = begins_step s low n (ascending_between s low n) (ascending_begins s low n)

-- ---- from member to member

pub not_both : (low n : ℕ) (b : Bool) → (low ≤ n → b ≡ false) → (nat_le low n && b) ≡ false
not_both low n b none = grind (arith, nat_tests)

pub ascending_none : (s : NameSet) (low n : ℕ) → ((v : ℕ) → low ≤ v → v < n → set.contains s v ≡ false) → ascending_between s low n ≡ []
unfolding ascending_between
ascending_none s low zero none = refl
ascending_none s low (suc n) none =
    let before = ascending_none s low n (λ v l h. none v l (omega arith)) in
    let absent : (nat_le low n && set.contains s n) ≡ false = not_both low n _ (λ l. none n l (omega arith)) in
    rw (before, absent) refl

both_low : (low m n : ℕ) (b : Bool) → low ≤ m → m ≤ n → (nat_le low n && b) ≡ (nat_le m n && b)
both_low low m n b l h = grind (arith, nat_tests)

ascending_split_by : (s : NameSet) (low m d : ℕ) → low ≤ m → ascending_between s low (m + d) ≡ ascending_between s low m ++ ascending_between s m (m + d)
unfolding ascending_between
ascending_split_by s low m zero l =
    let same : m + 0 ≡ m = omega arith in
    let none = ascending_none s m m (λ v a b. absurd (omega arith)) in
    rw (same, none, append-nil) refl
ascending_split_by s low m (suc d) l =
    let bound : m + suc d ≡ suc (m + d) = omega arith in
    let before = ascending_split_by s low m d l in
    let same = both_low low m (m + d) (set.contains s (m + d)) l (omega arith) in
    rw (bound, before, same, append_assoc) refl

-- the members below m, and those from m on
pub ascending_split : (s : NameSet) (low m n : ℕ) → low ≤ m → m ≤ n → ascending_between s low n ≡ ascending_between s low m ++ ascending_between s m n
ascending_split s low m n l h =
    let bound : m + (n - m) ≡ n = omega arith in
    subst (λ k. ascending_between s low k ≡ ascending_between s low m ++ ascending_between s m k) bound (ascending_split_by s low m (n - m) l)

same_last : (low n : ℕ) (a b : Bool) → (low ≤ n → a ≡ b) → (nat_le low n && a) ≡ (nat_le low n && b)
same_last low n a b same = grind (arith, nat_tests)

-- a set that has the same members in the range has the same list
pub ascending_same : (s t : NameSet) (low n : ℕ) → ((v : ℕ) → low ≤ v → v < n → set.contains s v ≡ set.contains t v) → ascending_between s low n ≡ ascending_between t low n
unfolding ascending_between
ascending_same s t low zero same = refl
ascending_same s t low (suc n) same =
    let before = ascending_same s t low n (λ v l h. same v l (omega arith)) in
    let here : (nat_le low n && set.contains s n) ≡ (nat_le low n && set.contains t n) = same_last low n _ _ (λ l. same n l (omega arith)) in
    rw (before, here) refl

-- the list of one member
ascending_one : (s : NameSet) (x : ℕ) → Has s x → ascending_between s x (suc x) ≡ x ∷ []
unfolding ascending_between
ascending_one s x m =
    let none = ascending_none s x x (λ v a b. absurd (omega arith)) in
    let here : (nat_le x x && set.contains s x) ≡ true = grind (arith, nat_tests) in
    rw (none, here) refl

absent_first : (s : NameSet) (low n x v : ℕ) → IsFirstItem s low n x → low ≤ v → v < x → set.contains s v ≡ false
absent_first s low n x v is l h =
    let below = is.below in
    false_from_ne_true _ (λ m. let least = is.first v m l (omega arith) in absurd (omega arith))

same_rest : (x : ℕ) (xs ys : List ℕ) → x ∷ xs ≡ x ∷ ys → xs ≡ ys
same_rest x xs ys e = cc

-- the first member, and those behind it
pub ascending_step : (s : NameSet) (low n x : ℕ) → IsFirstItem s low n x → ascending_between s low n ≡ x ∷ ascending_between s (x + 1) n
ascending_step s low n x is =
    let l = is.above in
    let h = is.below in
    let next : suc x ≡ x + 1 = omega arith in
    let none = ascending_none s low x (λ v a b. absent_first s low n x v is a b) in
    ascending_split s low x n l (omega arith)
    ∙ ap (λ xs. xs ++ ascending_between s x n) none
    ∙ ascending_split s x (suc x) n (omega arith) (omega arith)
    ∙ ap (λ xs. xs ++ ascending_between s (suc x) n) (ascending_one s x is.member)
    ∙ ap (λ m. x ∷ ascending_between s m n) next

pub record IsTurn (s : NameSet) (low n x : ℕ) (rest : List ℕ) : Type 0 where
  pub item : IsFirstItem s low n x
  pub left : rest ≡ ascending_between s (x + 1) n

-- One turn of a walk over the members. In a `for x in names.members()` the invariant is that, for some number low,
-- `l.x-iterator ≡ ascending_from s low`, and that all is done for the members below low: low is 0 at first, and x + 1 after a
-- turn. `steps` is `c.in-Some.ensures.steps`, and at the end `c.in-None.ensures.steps`.
pub walk_turn : (s : NameSet) (low n x : ℕ) (left rest : List ℕ) → left ≡ ascending_between s low n → left ≡ x ∷ rest → IsTurn s low n x rest
walk_turn s low n x left rest is steps =
    let item : IsFirstItem s low n x = subst (BeginsWith s low n) (sym is ∙ steps) (ascending_begins s low n) in
    record { item = item; left = same_rest x rest (ascending_between s (x + 1) n) (sym steps ∙ is ∙ ascending_step s low n x item) }

-- at the end of a walk all members are below low
pub walk_end : (s : NameSet) (low n : ℕ) (left rest : List ℕ) → AllBelow s n → left ≡ ascending_between s low n → (left ≡ []) × (rest ≡ []) → (w : ℕ) → Has s w → w < low
walk_end s low n left rest below is steps w m =
    let none = subst (BeginsWith s low n) (sym is ∙ steps.0) (ascending_begins s low n) in
    under low w (λ l. none w m l (below w m))

-- what is done for the members below low is done for those below x + 1
pub walk_more : (s : NameSet) (low n x : ℕ) (Done : ℕ → Type 0) → IsFirstItem s low n x → ((w : ℕ) → Has s w → w < low → Done w) → Done x → (w : ℕ) → Has s w → w < x + 1 → Done w
walk_more s low n x Done is done here w m below =
    elim (cases_lt w low) [
      | inl less ↦ done w m less
      | inr past ↦ let least = is.first w m past (let h = is.below in omega arith) in let same : x ≡ w = omega arith in subst Done same here
    ]

-- ---- the list as a whole

-- what holds of each item
not_itself : (n : ℕ) (b : Bool) → (b && ltb n n) ≡ false
not_itself n b = grind (arith, nat_tests)

low_enough : (n : ℕ) → (nat_le 0 n && true) ≡ true
low_enough n = grind (arith, nat_tests)

no_last : (n : ℕ) → (nat_le 0 n && false) ≡ false
no_last n = grind (arith, nat_tests)

itself : (v : ℕ) (b : Bool) → ((v == v) || b) ≡ true
itself v b = grind (arith, nat_tests)

other : (w v : ℕ) (b : Bool) → w ≢ v → ((w == v) || b) ≡ b
other w v b ne = grind (arith, nat_tests)

all_test : (n q : ℕ) (b : Bool) → (b ≡ true → q < n) → (b && ltb q n) ≡ b
all_test n q b below = grind (arith, nat_tests)

under_test : (p : ℕ → Bool) (n q : ℕ) → p n ≡ true → (p q && ltb q (suc n)) ≡ ((q == n) || (p q && ltb q n))
under_test p n q m = grind (arith, nat_tests)

under_same : (p : ℕ → Bool) (n q : ℕ) → p n ≡ false → (p q && ltb q (suc n)) ≡ (p q && ltb q n)
under_same p n q m = grind (arith, nat_tests)

has_last : (s : NameSet) (low n w : ℕ) → Has s w → low ≤ w → n ≡ w → test s low n ≡ true
has_last s low n w m l same = rw same (grind (arith, nat_tests))

pub record IsItem (s : NameSet) (low n x : ℕ) : Type 0 where
  pub member : Has s x
  pub above : low ≤ x
  pub below : x < n

last_item : (s : NameSet) (low n : ℕ) → test s low n ≡ true → IsItem s low (suc n) n
last_item s low n e = let last = last_of s low n e in record { member = last.0; above = last.1; below = omega arith }

more_item : (s : NameSet) (low n x : ℕ) → IsItem s low n x → IsItem s low (suc n) x
more_item s low n x is = record { member = is.member; above = is.above; below = (let h = is.below in omega arith) }

abbrev last_list : Bool → ℕ → List ℕ
last_list b n = if b then n ∷ [] else []

-- each item is a member in the range
pub ascending_items : (s : NameSet) (low n : ℕ) → All (IsItem s low n) (ascending_between s low n)
unfolding ascending_between
ascending_items s low zero = All-nil _
ascending_items s low (suc n) =
    let before = All-weaker (IsItem s low n) (IsItem s low (suc n)) (more_item s low n) _ (ascending_items s low n) in
    elim (test s low n) as (λ b. test s low n ≡ b → All (IsItem s low (suc n)) (ascending_between s low n ++ last_list b n)) [
      | true ↦ λ e. All-push (IsItem s low (suc n)) _ n before (last_item s low n e)
      | false ↦ λ e. rw append-nil before
    ] refl

-- each item is below those behind it
pub ascending_order : (s : NameSet) (low n : ℕ) → AllPairs (λ x y. x < y) (ascending_between s low n)
unfolding ascending_between
ascending_order s low zero = λ i j d l h. absurd (omega arith)
ascending_order s low (suc n) =
    let before = ascending_order s low n in
    let items = ascending_items s low n in
    elim (test s low n) as (λ b. AllPairs (λ x y. x < y) (ascending_between s low n ++ last_list b n)) [
      | true ↦ all_pairs_push (λ x y. x < y) _ n before (λ k d h. (items k d h).below)
      | false ↦ rw append-nil before
    ]

contains_here : (w : ℕ) → Contains (w ∷ []) w
contains_here w = (0, lit< tt, refl)

contains_last : (xs : List ℕ) (n w : ℕ) → n ≡ w → Contains (xs ++ n ∷ []) w
contains_last xs n w e = subst (λ k. Contains (xs ++ k ∷ []) w) (sym e) (Contains-append_right xs (w ∷ []) w (contains_here w))

-- each member in the range is an item
pub ascending_appears : (s : NameSet) (low n w : ℕ) → Has s w → low ≤ w → w < n → Contains (ascending_between s low n) w
unfolding ascending_between
ascending_appears s low zero w m l h = absurd (omega arith)
ascending_appears s low (suc n) w m l h =
    elim (cases_lt w n) [
      | inl less ↦ Contains-append_left _ _ _ (ascending_appears s low n w m l less)
      | inr past ↦
          let same : n ≡ w = omega arith in
          let here : test s low n ≡ true = has_last s low n w m l same in
          rw here (contains_last (ascending_between s low n) n w same)
    ]

-- the members below n
abbrev under_bound : NameSet → ℕ → NameSet
under_bound s n = set.retain s (λ v. ltb v n)

under_none : (s : NameSet) → under_bound s 0 ≡ set.empty
under_none s = same_set _ _ (λ q. rw (contains-retain s (λ v. ltb v 0) q, contains-empty q) (grind (arith, nat_tests)))

under_with : (s : NameSet) (n : ℕ) → set.contains s n ≡ true → under_bound s (suc n) ≡ set.insert (under_bound s n) n
under_with s n m =
    same_set _ _ (λ q. rw (contains-insert (under_bound s n) n q, contains-retain s (λ v. ltb v n) q, contains-retain s (λ v. ltb v (suc n)) q) (under_test (set.contains s) n q m))

under_without : (s : NameSet) (n : ℕ) → set.contains s n ≡ false → under_bound s (suc n) ≡ under_bound s n
under_without s n m =
    same_set _ _ (λ q. rw (contains-retain s (λ v. ltb v n) q, contains-retain s (λ v. ltb v (suc n)) q) (under_same (set.contains s) n q m))

under_all : (s : NameSet) (n : ℕ) → AllBelow s n → under_bound s n ≡ s
under_all s n below = same_set _ _ (λ q. rw (contains-retain s (λ v. ltb v n) q) (all_test n q (set.contains s q) (below q)))

length_under : (s : NameSet) (n : ℕ) → length (ascending_between s 0 n) ≡ set.len (under_bound s n)
unfolding ascending_between
length_under s zero = sym (ap set.len (under_none s) ∙ len-empty)
length_under s (suc n) =
    let before = length_under s n in
    let absent : set.contains (under_bound s n) n ≡ false = contains-retain s (λ v. ltb v n) n ∙ not_itself n _ in
    elim (cases_Bool (set.contains s n)) [
      | inl m ↦
          let here : test s 0 n ≡ true = rw m (low_enough n) in
          let size = len-insert (under_bound s n) n in
          rw (under_with s n m, here, size, absent, length-append, before) refl
      | inr m ↦
          let here : test s 0 n ≡ false = rw m (no_last n) in
          rw (under_without s n m, here, append-nil, before) refl
    ]

-- the length is the number of members
pub length-ascending : (s : NameSet) (n : ℕ) → AllBelow s n → length (ascending_between s 0 n) ≡ set.len s
length-ascending s n below = length_under s n ∙ ap set.len (under_all s n below)

-- no more members are below n than there are names
pub few_below : (s : NameSet) (low n : ℕ) → length (ascending_between s low n) ≤ n
unfolding ascending_between
few_below s low zero = omega arith
few_below s low (suc n) =
    let before = few_below s low n in
    elim (cases_Bool (nat_le low n && set.contains s n)) [
      | inl t ↦ rw (t, length-append (ascending_between s low n) (n ∷ [])) (omega arith)
      | inr f ↦ rw (f, length-append (ascending_between s low n) []) (omega arith)
    ]

-- a set of names below a limit has no more members
pub few_names : (s : NameSet) (limit : ℕ) → AllBelow s limit → set.len s ≤ limit
few_names s limit below = subst (λ n. n ≤ limit) (length-ascending s limit below) (few_below s 0 limit)

set_of_list : (s : NameSet) (n : ℕ) → set.from_list (ascending_between s 0 n) ≡ under_bound s n
unfolding ascending_between
set_of_list s zero = sym (under_none s)
set_of_list s (suc n) =
    let before = set_of_list s n in
    elim (cases_Bool (set.contains s n)) [
      | inl m ↦
          let here : test s 0 n ≡ true = rw m (low_enough n) in
          let push = set.from_list_push nat_cmp_total nat_cmp-IsAntisymmetric (ascending_between s 0 n) n in
          rw (under_with s n m, here, push, before) refl
      | inr m ↦
          let here : test s 0 n ≡ false = rw m (no_last n) in
          rw (under_without s n m, here, append-nil, before) refl
    ]

-- the set of the list is the set
pub from_list-ascending : (s : NameSet) (n : ℕ) → AllBelow s n → set.from_list (ascending_between s 0 n) ≡ s
from_list-ascending s n below = set_of_list s n ∙ under_all s n below

-- ---- a set of one name

pub alone_is : (s : NameSet) (v : ℕ) → IsLeastFrom s 0 v → AllBelow s (v + 1) → s ≡ only_name v
alone_is s v least below = same_members s (only_name v) to from where
  to : (x : ℕ) → Has s x → Has (only_name v) x
  to x h =
      let a : v ≤ x = least.first x h (omega arith) in
      let b = below x h in
      let same : v ≡ x = omega arith in
      subst (Has (only_name v)) same (only_has v)

  from : (x : ℕ) → Has (only_name v) x → Has s x
  from x h = subst (Has s) (sym (of_only v x h)) least.member

-- ---- the set of a list

-- the set of the names of a list, with one item of it more
pub from_list_more : (s t : NameSet) (xs : List ℕ) (i : ℕ) → s ≡ set.from_list (take i xs) → i < length xs → t ≡ set.insert s (get_or xs i 0) → t ≡ set.from_list (take (i + 1) xs)
from_list_more s t xs i so_far within more =
    more ∙ ap (λ u. set.insert u (get_or xs i 0)) so_far
    ∙ sym (ap set.from_list (take_more xs i 0 within) ∙ set.from_list_push nat_cmp_total nat_cmp-IsAntisymmetric (take i xs) (get_or xs i 0))
