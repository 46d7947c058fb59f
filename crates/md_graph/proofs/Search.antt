-- Searches and decisions over finite sets, induction over them, and their sizes.
use Rattle.std.proofs.Common.{◌≡◌, ℕ, ◌+◌, ◌-◌, ◌<◌, ◌≤◌, zero, suc, Bool, true, false, cond, List, [], ◌∷◌, ◌≢◌, ◌⊎◌, refl, sym, ◌∙◌, ap, subst, inl, inr, true≢false, arith, ltb, ltb-true, ltb-false}
use Rattle.std.specs.FinSet.{contains, empty, insert, remove, union, intersection, difference, len, items, from_list, contains-items, contains-from_list, len-insert, len-remove, len-empty, empty_of_len}
use Rattle.std.specs.Cmp.{nat_cmp_total}
use Rattle.std.proofs.Math.Logic.{⊎_swap}
use mathlib.Mathlib.Data.Bool.Basic.{dichotomy}
use Rattle.std.specs.Ordering.{nat_cmp}
use Rattle.md_graph.specs.Sets.{NameSet, Has, Lacks, Within, HasTwo, only_name}
use Rattle.std.proofs.lemmas.Bool.{cases_Bool, cases_lt}
use Rattle.md_graph.proofs.SetLemmas.{Has-along, along_two, only_new, minus_lacks, clash, same_name, empty_lacks, insert_new, insert_old, of_insert, insert_lacks, remove_left, of_remove, same_members, Within-refl, Within-trans, remove_insert, insert_within, insert_known, of_meet, of_union, union_left, union_right, of_minus, minus_has, lacks_within}

-- each set is the set of a list
of_items : (s : NameSet) → s ≡ from_list (items s)
of_items s = same_members _ _
    (λ q h. contains-from_list nat_cmp_total (items s) q ∙ sym (contains-items s q) ∙ h)
    (λ q h. contains-items s q ∙ sym (contains-from_list nat_cmp_total (items s) q) ∙ h)

module _ {ℓ} (P : NameSet → Type ℓ) (none : P empty) (more : (s : NameSet) (x : ℕ) → Lacks s x → P s → P (insert s x)) where
  over_list : (ks : List ℕ) → P (from_list ks)
  over_list [] = none
  over_list (k ∷ ks) =
      elim (cases_Bool (contains (from_list ks) k)) [
        | inl h ↦ subst P (sym (insert_known _ k h)) (over_list ks)
        | inr l ↦ more _ k l (over_list ks)
      ]

  -- induction over sets: the empty set, and one new member
  pub over_sets : (s : NameSet) → P s
  over_sets s = subst P (sym (of_items s)) (over_list (items s))

-- P or its denial
abbrev pub Decided : Type 0 → Type 0
Decided P = P ⊎ (P → ⊥)

pub decide_test : (a b : Bool) → Decided (a ≡ b)
decide_test true true = inl refl
decide_test true false = inr (λ e. true≢false e)
decide_test false true = inr (λ e. true≢false (sym e))
decide_test false false = inl refl

pub decide_both : {P Q : Type 0} → Decided P → Decided Q → Decided (P × Q)
decide_both (inl p) (inl q) = inl (p, q)
decide_both (inl p) (inr n) = inr (λ w. n w.1)
decide_both (inr n) d = inr (λ w. n w.0)

pub decide_three : {P Q R : Type 0} → Decided P → Decided Q → Decided R → Decided (P × Q × R)
decide_three (inl p) (inl q) (inl r) = inl (p, q, r)
decide_three (inl p) (inl q) (inr n) = inr (λ w. n w.2)
decide_three (inl p) (inr n) d = inr (λ w. n w.1)
decide_three (inr n) c d = inr (λ w. n w.0)

pub decide_not : {P : Type 0} → Decided P → Decided (P → ⊥)
decide_not (inl p) = inr (λ n. n p)
decide_not (inr n) = inl n

pub decide_if : {P Q : Type 0} → Decided P → Decided Q → Decided (P → Q)
decide_if d (inl q) = inl (λ p. q)
decide_if (inl p) (inr n) = inr (λ f. n (f p))
decide_if (inr m) (inr n) = inl (λ p. absurd (m p))

pub decide_like : {P Q : Type 0} → (P → Q) → (Q → P) → Decided P → Decided Q
decide_like f g (inl p) = inl (f p)
decide_like f g (inr n) = inr (λ q. n (g q))

-- a member with P, or all with N
module _ (P N : ℕ → Type 0) where
  abbrev Found : NameSet → Type 0
  Found s = (x : ℕ) × Has s x × P x

  abbrev Searched : NameSet → Type 0
  Searched s = ((x : ℕ) → Has s x → P x ⊎ N x) → Found s ⊎ ((x : ℕ) → Has s x → N x)

  search_more : (s : NameSet) (k : ℕ) → Lacks s k → Searched s → Searched (insert s k)
  search_more s k l rest d =
      elim (rest (λ x h. d x (insert_old s k x h))) [
        | inl w ↦ inl (w.0, insert_old s k w.0 w.1, w.2)
        | inr none ↦ elim (d k (insert_new s k)) [
          | inl p ↦ inl (k, insert_new s k, p)
          | inr n ↦ inr (λ x h. elim (of_insert s k x h) [ inl e ↦ subst N (sym e) n | inr m ↦ none x m ])
        ]
      ]

  pub search_members : (s : NameSet) → Searched s
  search_members = over_sets Searched (λ d. inr (λ x h. clash h (empty_lacks x))) search_more

pub decide_some : (s : NameSet) (P : ℕ → Type 0) → ((x : ℕ) → Has s x → Decided (P x)) → Decided ((x : ℕ) × Has s x × P x)
decide_some s P d =
    elim (search_members P (λ x. P x → ⊥) s d) [ inl w ↦ inl w | inr n ↦ inr (λ w. n w.0 w.1 w.2) ]

pub decide_all : (s : NameSet) (P : ℕ → Type 0) → ((x : ℕ) → Has s x → Decided (P x)) → Decided ((x : ℕ) → Has s x → P x)
decide_all s P d =
    elim (search_members (λ x. P x → ⊥) P s (λ x h. ⊎_swap (d x h))) [ inl w ↦ inr (λ f. w.2 (f w.0 w.1)) | inr n ↦ inl n ]

-- a subset with P, or all with N
abbrev SearchedSets : NameSet → Type 1
SearchedSets s =
    (P N : NameSet → Type 0) → ((a : NameSet) → Within a s → P a ⊎ N a) →
    ((a : NameSet) × Within a s × P a) ⊎ ((a : NameSet) → Within a s → N a)

none_within : (s : NameSet) (a : NameSet) → Within a empty → a ≡ empty
none_within s a w = same_members a empty w (λ q h. clash h (empty_lacks q))

apart_within : (s a : NameSet) (k : ℕ) → Within a (insert s k) → Lacks a k → Within a s
apart_within s a k w l q h = elim (of_insert s k q (w q h)) [ inl e ↦ clash (subst (Has a) e h) l | inr m ↦ m ]

remove_within : (s a : NameSet) (k : ℕ) → Within a (insert s k) → Within (remove a k) s
remove_within s a k w q h =
    let two : (_ : _) × _ = of_remove a k q h in
    elim (of_insert s k q (w q two.1)) [ inl e ↦ absurd (two.0 e) | inr m ↦ m ]

search_sets_more : (s : NameSet) (k : ℕ) → Lacks s k → SearchedSets s → SearchedSets (insert s k)
search_sets_more s k l rest P N d =
    elim (rest P N (λ a w. d a (λ q h. insert_old s k q (w q h)))) [
      | inl f ↦ inl (f.0, (λ q h. insert_old s k q (f.1 q h)), f.2)
      | inr none ↦
          elim (rest (λ a. P (insert a k)) (λ a. N (insert a k)) (λ a w. d (insert a k) (insert_within a (insert s k) k (λ q h. insert_old s k q (w q h)) (insert_new s k)))) [
            | inl f ↦ inl (insert f.0 k, insert_within f.0 (insert s k) k (λ q h. insert_old s k q (f.1 q h)) (insert_new s k), f.2)
            | inr none_with ↦ inr (λ a w. elim (cases_Bool (contains a k)) [
              | inl h ↦ subst N (remove_insert a k h) (none_with (remove a k) (remove_within s a k w))
              | inr out ↦ none a (apart_within s a k w out)
            ])
          ]
    ]

search_sets_none : SearchedSets empty
search_sets_none P N d =
    elim (d empty (Within-refl empty)) [
      | inl p ↦ inl (empty, Within-refl empty, p)
      | inr n ↦ inr (λ a w. subst N (sym (none_within empty a w)) n)
    ]

pub search_sets : (s : NameSet) → SearchedSets s
search_sets = over_sets SearchedSets search_sets_none search_sets_more

pub decide_some_set : (s : NameSet) (P : NameSet → Type 0) → ((a : NameSet) → Within a s → Decided (P a)) → Decided ((a : NameSet) × Within a s × P a)
decide_some_set s P d =
    elim (search_sets s P (λ a. P a → ⊥) d) [ inl w ↦ inl w | inr n ↦ inr (λ w. n w.0 w.1 w.2) ]

pub decide_all_sets : (s : NameSet) (P : NameSet → Type 0) → ((a : NameSet) → Within a s → Decided (P a)) → Decided ((a : NameSet) → Within a s → P a)
decide_all_sets s P d =
    elim (search_sets s (λ a. P a → ⊥) P (λ a w. ⊎_swap (d a w))) [ inl w ↦ inr (λ f. w.2 (f w.0 w.1)) | inr n ↦ inl n ]

pub decide_within : (a b : NameSet) → Decided (Within a b)
decide_within a b = decide_all a (Has b) (λ x h. decide_test (contains b x) true)

-- a member of a that b lacks, or a lies in b
pub outside_or_within : (a b : NameSet) → ((x : ℕ) × Has a x × Lacks b x) ⊎ Within a b
outside_or_within a b = search_members (Lacks b) (Has b) a (λ x h. dichotomy (contains b x))

-- a member of both, or none
pub meet_or_disjoint : (a b : NameSet) → ((x : ℕ) × Has a x × Has b x) ⊎ ((x : ℕ) → Has a x → Lacks b x)
meet_or_disjoint a b = search_members (Has b) (Lacks b) a (λ x h. cases_Bool (contains b x))

-- a name that tells two sets apart, or they are equal
pub larger_or_same : (a b : NameSet) → Within a b → ((x : ℕ) × Has b x × Lacks a x) ⊎ (a ≡ b)
larger_or_same a b w = elim (outside_or_within b a) [ inl f ↦ inl f | inr v ↦ inr (same_members a b w v) ]

pub decide_same : (a b : NameSet) → Decided (a ≡ b)
decide_same a b =
    elim (outside_or_within a b) [
      | inl f ↦ inr (λ e. clash (Has-along a b e f.0 f.1) f.2)
      | inr w ↦ elim (larger_or_same a b w) [
        | inl f ↦ inr (λ e. clash (Has-along b a (sym e) f.0 f.1) f.2)
        | inr e ↦ inl e
      ]
    ]

pub decide_has_some : (s : NameSet) → Decided ((x : ℕ) × Has s x)
decide_has_some s =
    elim (search_members (λ x. Unit {0}) (λ x. ⊥) s (λ x h. inl tt)) [ inl w ↦ inl (w.0, w.1) | inr n ↦ inr (λ w. n w.0 w.1) ]

-- sizes
pub some_len : (s : NameSet) (x : ℕ) → Has s x → 1 ≤ len s
some_len s x h = elim (zero_or_more (len s)) [ inl e ↦ clash (Has-along s empty (empty_of_len s e) x h) (empty_lacks x) | inr p ↦ p ] where
  zero_or_more : (n : ℕ) → (n ≡ 0) ⊎ (1 ≤ n)
  zero_or_more zero = inl refl
  zero_or_more (suc n) = inr (omega arith)

pub len_more : (s : NameSet) (x : ℕ) → Lacks s x → len (insert s x) ≡ len s + 1
len_more s x l = len-insert nat_cmp_total s x ∙ ap (λ b. cond b (len s) (len s + 1)) l

pub len_fewer : (s : NameSet) (x : ℕ) → Has s x → len (remove s x) + 1 ≡ len s
len_fewer s x h =
    let p : len (remove s x) ≡ len s - 1 = len-remove nat_cmp_total s x ∙ ap (λ b. cond b (len s - 1) (len s)) h in
    let q : 1 ≤ len s = some_len s x h in
    omega arith

abbrev IsBelow : NameSet → Type 0
IsBelow s = (t : NameSet) → Within s t → len s ≤ len t

below_more : (s : NameSet) (x : ℕ) → Lacks s x → IsBelow s → IsBelow (insert s x)
below_more s x l rest t w =
    let h : Has t x = w x (insert_new s x) in
    let a : len s ≤ len (remove t x) = rest (remove t x) (λ q m. remove_left t x q (λ e. clash (subst (Has s) e m) l) (w q (insert_old s x q m))) in
    let b : len (remove t x) + 1 ≡ len t = len_fewer t x h in
    let c : len (insert s x) ≡ len s + 1 = len_more s x l in
    omega arith

below_none : IsBelow empty
below_none t w = let e : len (empty {R = nat_cmp}) ≡ 0 = len-empty nat_cmp in omega arith

pub len_within : (s t : NameSet) → Within s t → len s ≤ len t
len_within = over_sets IsBelow below_none below_more

pub len_proper : (s t : NameSet) (x : ℕ) → Within s t → Has t x → Lacks s x → len s < len t
len_proper s t x w h l =
    let a : len (insert s x) ≤ len t = len_within (insert s x) t (insert_within s t x w h) in
    let c : len (insert s x) ≡ len s + 1 = len_more s x l in
    omega arith

-- extremal sets
module _ (P : NameSet → Type 0) where
  abbrev Smallest : NameSet → Type 0
  Smallest s = (m : NameSet) × Within m s × P m × ((a : NameSet) → Within a m → P a → a ≡ m)

  smallest_in : (n : ℕ) (s : NameSet) → len s < n → P s → ((a : NameSet) → Within a s → Decided (P a)) → Smallest s
  smallest_in zero s b p d = absurd (omega arith)
  smallest_in (suc n) s b p d =
      elim (decide_some_set s (λ a. P a × ((x : ℕ) × Has s x × Lacks a x))
      (λ a w. decide_both (d a w) (decide_some s (Lacks a) (λ x h. decide_test (contains a x) false)))) [
        | inl f ↦
            let r : Smallest f.0 = smallest_in n f.0 (let c : len f.0 < len s = len_proper f.0 s f.2.1.0 f.1 f.2.1.1 f.2.1.2 in omega arith) f.2.0 (λ a w. d a (Within-trans a f.0 s w f.1)) in
            (r.0, Within-trans r.0 f.0 s r.1 f.1, r.2, r.3)
        | inr none ↦
            (s, Within-refl s, p, λ a w q. elim (larger_or_same a s w) [ inl f ↦ absurd (none (a, w, (q, f))) | inr e ↦ e ])
      ]

  -- a smallest set with P inside s
  pub smallest : (s : NameSet) → P s → ((a : NameSet) → Within a s → Decided (P a)) → Smallest s
  smallest s p d = smallest_in (len s + 1) s (omega arith) p d

  abbrev Largest : NameSet → NameSet → Type 0
  Largest a s = (m : NameSet) × Within a m × Within m s × P m × ((b : NameSet) → Within m b → Within b s → P b → b ≡ m)

  largest_over : (n : ℕ) (s a : NameSet) → len s < len a + n → Within a s → P a → ((b : NameSet) → Within b s → Decided (P b)) → Largest a s
  largest_over zero s a b w p d = let c : len a ≤ len s = len_within a s w in absurd (omega arith)
  largest_over (suc n) s a b w p d =
      elim (decide_some_set s (λ t. Within a t × P t × ((x : ℕ) × Has t x × Lacks a x))
      (λ t v. decide_three (decide_within a t) (d t v) (decide_some t (Lacks a) (λ x h. decide_test (contains a x) false)))) [
        | inl f ↦
            let r : Largest f.0 s = largest_over n s f.0 (let c : len a < len f.0 = len_proper a f.0 f.2.2.0 f.2.0 f.2.2.1 f.2.2.2 in omega arith) f.1 f.2.1 d in
            (r.0, Within-trans a f.0 r.0 f.2.0 r.1, r.2, r.3, r.4)
        | inr none ↦
            (a, Within-refl a, w, p, λ t u v q. elim (larger_or_same a t u) [ inl f ↦ absurd (none (t, v, (u, q, f))) | inr e ↦ sym e ])
      ]

  -- a largest set with P that holds a, inside s
  pub largest : (s a : NameSet) → Within a s → P a → ((b : NameSet) → Within b s → Decided (P b)) → Largest a s
  largest s a w p d = largest_over (len s + 1) s a (omega arith) w p d

  -- where P is kept by intersections: the set with P that lies in each other one
  pub least : (s : NameSet) → P s → ((a : NameSet) → Within a s → Decided (P a)) → ((a b : NameSet) → P a → P b → P (intersection a b)) →
      (m : NameSet) × Within m s × P m × ((a : NameSet) → P a → Within m a)
  least s p d meets =
      let m : Smallest s = smallest s p d in
      (m.0, m.1, m.2, λ a q x h. (of_meet m.0 a x (Has-along m.0 (intersection m.0 a) (sym (m.3 (intersection m.0 a) (λ y k. (of_meet m.0 a y k).0) (meets m.0 a m.2 q))) x h)).1)

-- a function that keeps what each member has
module _ (s : NameSet) (Q : ℕ → ℕ → Type 0) (d : (x : ℕ) → Has s x → (y : ℕ) × Q x y) where
  abbrev chosen_at : (x : ℕ) (b : Bool) → contains s x ≡ b → ℕ
  chosen_at x true h = (d x h).0
  chosen_at x false h = 0

  chosen_fits : (x : ℕ) (b : Bool) (h : contains s x ≡ b) → b ≡ true → Q x (chosen_at x b h)
  chosen_fits x true h t = (d x h).1
  chosen_fits x false h t = absurd (true≢false (sym t))

  pub choose : (f : ℕ → ℕ) × ((x : ℕ) → Has s x → Q x (f x))
  choose = ((λ x. chosen_at x (contains s x) refl), λ x h. chosen_fits x (contains s x) refl h)

-- the test of what is decided
abbrev pub test_of : {P : Type 0} → Decided P → Bool
test_of (inl p) = true
test_of (inr n) = false

pub test_holds : {P : Type 0} → (d : Decided P) → P → test_of d ≡ true
test_holds (inl p) q = refl
test_holds (inr n) q = absurd (n q)

pub of_test : {P : Type 0} → (d : Decided P) → test_of d ≡ true → P
of_test (inl p) h = p
of_test (inr n) h = absurd (true≢false (sym h))

-- a set of one member at most, of two, and of four
pub len_single : (s : NameSet) (x : ℕ) → ((y : ℕ) → Has s y → y ≡ x) → len s ≤ 1
len_single s x only =
    let a : len s ≤ len (only_name x) = len_within s (only_name x) (λ y h. subst (Has (only_name x)) (sym (only y h)) (insert_new empty x)) in
    let b : len (only_name x) ≡ len (empty {R = nat_cmp}) + 1 = len_more empty x (empty_lacks x) in
    let c : len (empty {R = nat_cmp}) ≡ 0 = len-empty nat_cmp in
    omega arith

-- a set with another member than x, or with x alone
pub other_or_alone : (s : NameSet) (x : ℕ) → ((y : ℕ) × Has s y × (y ≢ x)) ⊎ ((y : ℕ) → Has s y → y ≡ x)
other_or_alone s x = search_members (λ y. y ≢ x) (λ y. y ≡ x) s (λ y h. ⊎_swap (same_name y x))

pub two_of_len : (s : NameSet) → 2 ≤ len s → HasTwo s
two_of_len s b =
    elim (search_members (λ x. Unit {0}) (λ x. ⊥) s (λ x h. inl tt)) [
      | inr none ↦
          let a : len s ≤ len (empty {R = nat_cmp}) = len_within s empty (λ y h. absurd (none y h)) in
          let c : len (empty {R = nat_cmp}) ≡ 0 = len-empty nat_cmp in
          absurd (omega arith)
      | inl f ↦ elim (other_or_alone s f.0) [
        | inl g ↦ (g.0, f.0, g.1, f.1, g.2)
        | inr only ↦ let a : len s ≤ 1 = len_single s f.0 only in absurd (omega arith)
      ]
    ]

pub len_four : (s : NameSet) (a b c d : ℕ) → Has s a → Has s b → Has s c → Has s d → a ≢ b → a ≢ c → b ≢ c → a ≢ d → b ≢ d → c ≢ d → 4 ≤ len s
len_four s a b c d ha hb hc hd ab ac bc ad bd cd =
    let l0 : len (empty {R = nat_cmp}) ≡ 0 = len-empty nat_cmp in
    let l1 : len (insert empty a) ≡ len (empty {R = nat_cmp}) + 1 = len_more empty a (empty_lacks a) in
    let l2 : len (insert (insert empty a) b) ≡ len (insert empty a) + 1 =
    len_more (insert empty a) b (insert_lacks empty a b (λ e. ab (sym e)) (empty_lacks b)) in
    let l3 : len (insert (insert (insert empty a) b) c) ≡ len (insert (insert empty a) b) + 1 =
    len_more (insert (insert empty a) b) c (insert_lacks (insert empty a) b c (λ e. bc (sym e)) (insert_lacks empty a c (λ e. ac (sym e)) (empty_lacks c))) in
    let l4 : len (insert (insert (insert (insert empty a) b) c) d) ≡ len (insert (insert (insert empty a) b) c) + 1 =
    len_more (insert (insert (insert empty a) b) c) d
    (insert_lacks (insert (insert empty a) b) c d (λ e. cd (sym e)) (insert_lacks (insert empty a) b d (λ e. bd (sym e)) (insert_lacks empty a d (λ e. ad (sym e)) (empty_lacks d)))) in
    let w : len (insert (insert (insert (insert empty a) b) c) d) ≤ len s =
    len_within (insert (insert (insert (insert empty a) b) c) d) s
    (insert_within (insert (insert (insert empty a) b) c) s d (insert_within (insert (insert empty a) b) s c (insert_within (insert empty a) s b (insert_within empty s a (λ q h. clash h (empty_lacks q)) ha) hb) hc) hd) in
    omega arith

-- the first member of a set
first_below : (s : NameSet) (n x : ℕ) → x < n → Has s x → (z : ℕ) × Has s z × ((y : ℕ) → Has s y → z ≤ y)
first_below s zero x b h = absurd (omega arith)
first_below s (suc n) x b h =
    elim (search_members (λ y. y < x) (λ y. x ≤ y) s (λ y k. cases_lt y x)) [
      | inl f ↦ first_below s n f.0 (let l : f.0 < x = f.2 in omega arith) f.1
      | inr none ↦ (x, h, none)
    ]

pub first_member : (s : NameSet) (x : ℕ) → Has s x → (z : ℕ) × Has s z × ((y : ℕ) → Has s y → z ≤ y)
first_member s x h = first_below s (x + 1) x (omega arith) h

pub len_one_more : (t : NameSet) (x : ℕ) → len (insert t x) ≤ len t + 1
len_one_more t x = elim (cases_Bool (contains t x)) [
  | inl h ↦ let same : len (insert t x) ≡ len t = ap len (insert_known t x h) in omega arith
  | inr l ↦ let more : len (insert t x) ≡ len t + 1 = len_more t x l in omega arith
]

pub decide_below : (a b : ℕ) → Decided (a < b)
decide_below a b = elim (cases_Bool (ltb a b)) [
  | inl t ↦ inl (ltb-true a b t)
  | inr t ↦ inr (λ l. let le : b ≤ a = ltb-false a b t in omega arith)
]

-- sizes of unions and of differences
abbrev IsUnionBelow : NameSet → Type 0
IsUnionBelow b = (a : NameSet) → len (union a b) ≤ len a + len b

union_below_more : (b : NameSet) (x : ℕ) → Lacks b x → IsUnionBelow b → IsUnionBelow (insert b x)
union_below_more b x l rest a =
    let p : len (union a (insert b x)) ≤ len (insert (union a b) x) = len_within (union a (insert b x)) (insert (union a b) x) inside in
    let q : len (insert (union a b) x) ≤ len (union a b) + 1 = len_one_more (union a b) x in
    let r : len (union a b) ≤ len a + len b = rest a in
    let m : len (insert b x) ≡ len b + 1 = len_more b x l in
    omega arith
  where
    inside : Within (union a (insert b x)) (insert (union a b) x)
    inside y h = elim (of_union a (insert b x) y h) [
      | inl i ↦ insert_old (union a b) x y (union_left a b y i)
      | inr j ↦ elim (of_insert b x y j) [
        | inl same ↦ subst (Has (insert (union a b) x)) (sym same) (insert_new (union a b) x)
        | inr k ↦ insert_old (union a b) x y (union_right a b y k)
      ]
    ]

union_below_none : IsUnionBelow empty
union_below_none a =
    let p : len (union a empty) ≤ len a = len_within (union a empty) a (λ y h. elim (of_union a empty y h) [ inl i ↦ i | inr j ↦ clash j (empty_lacks y) ]) in
    omega arith

pub len_union : (a b : NameSet) → len (union a b) ≤ len a + len b
len_union a b = over_sets IsUnionBelow union_below_none union_below_more b a

abbrev IsMinusBelow : NameSet → Type 0
IsMinusBelow b = (a : NameSet) → Within b a → len (difference a b) + len b ≤ len a

minus_below_more : (b : NameSet) (x : ℕ) → Lacks b x → IsMinusBelow b → IsMinusBelow (insert b x)
minus_below_more b x l rest a w =
    let p : len (difference a (insert b x)) < len (difference a b) =
    len_proper (difference a (insert b x)) (difference a b) x
    (λ y h. minus_has a b y (of_minus a (insert b x) y h).0 (lacks_within b (insert b x) (insert_old b x) y (of_minus a (insert b x) y h).1))
    (minus_has a b x (w x (insert_new b x)) l) (minus_lacks a (insert b x) x (insert_new b x)) in
    let r : len (difference a b) + len b ≤ len a = rest a (λ y h. w y (insert_old b x y h)) in
    let m : len (insert b x) ≡ len b + 1 = len_more b x l in
    omega arith

minus_below_none : IsMinusBelow empty
minus_below_none a w =
    let p : len (difference a empty) ≤ len a = len_within (difference a empty) a (λ y h. (of_minus a empty y h).0) in
    let z : len (empty {R = nat_cmp}) ≡ 0 = len-empty nat_cmp in
    omega arith

pub len_minus : (a b : NameSet) → Within b a → len (difference a b) + len b ≤ len a
len_minus a b w = over_sets IsMinusBelow minus_below_none minus_below_more b a w

-- a search takes one name off what is to do and moves some names over from what is left: this falls
pub search_falls : (left todo new : NameSet) (w : ℕ) → Has todo w → Within new left →
    len (difference left new) + len (union (remove todo w) new) < len left + len todo
search_falls left todo new w h inside =
    let p : len (difference left new) + len new ≤ len left = len_minus left new inside in
    let q : len (union (remove todo w) new) ≤ len (remove todo w) + len new = len_union (remove todo w) new in
    let r : len (remove todo w) + 1 ≡ len todo = len_fewer todo w h in
    omega arith

-- tests that don't differ are equal
pub alike_unless : (a b : Bool) → ((a ≡ b → ⊥) → ⊥) → a ≡ b
alike_unless a b n = elim (decide_test a b) [ inl same ↦ same | inr differ ↦ absurd (n differ) ]

-- ---- a search takes names and looks at them, so fewer are left

pub rest_falls : (rest c rest' : NameSet) (x : ℕ) → Has rest x → Has c x → rest' ≡ difference rest c → len rest' < len rest
rest_falls rest c rest' x h k is =
    len_proper rest' rest x (λ y l. (of_minus rest c y (Has-along rest' (difference rest c) is y l)).0) h
    (ap (λ s. contains s x) is ∙ minus_lacks rest c x k)

pub turn_falls : (left todo new left' todo' : NameSet) (w : ℕ) → Has todo w → Within new left → left' ≡ difference left new → todo' ≡ union (remove todo w) new →
    len left' + len todo' < len left + len todo
turn_falls left todo new left' todo' w h inside is_left is_todo =
    along_two (λ a b. len a + len b < len left + len todo) _ _ left' todo' is_left is_todo (search_falls left todo new w h inside)

pub idle_falls : (left todo todo' : NameSet) (w : ℕ) → Has todo w → todo' ≡ remove todo w → len left + len todo' < len left + len todo
idle_falls left todo todo' w h is =
    let r : len (remove todo w) + 1 ≡ len todo = len_fewer todo w h in
    subst (λ (t : NameSet). len left + len t < len left + len todo) (sym is) (omega arith)

-- fewer names are left and to be looked at
pub back_falls : (left new none left' todo' : NameSet) → none ≡ empty → Within new left → left' ≡ difference left new → todo' ≡ union none (intersection left new) → len left' + len todo' ≤ len left
back_falls left new none left' todo' is inside is_left is_todo =
    along_two (λ a b. len a + len b ≤ len left) _ _ left' todo' is_left (is_todo ∙ only_new left new none is inside) (len_minus left new inside)

pub back_shorter : (left todo left' todo' : NameSet) (w : ℕ) → Has todo w → len left' + len todo' ≤ len left → len left' + len todo' < len left + len todo
back_shorter left todo left' todo' w h is = let r : 1 ≤ len todo = some_len todo w h in omega arith
