-- Vectors that keep a partition: what is read of them.
use Rattle.std.proofs.Common.{◌≡◌, ◌≢◌, ℕ, ◌+◌, ◌<◌, ◌≤◌, Bool, true, false, cond, not, ◌&&◌, ◌||◌, ◌==◌, nat_lt, List, [], ◌∷◌, map, length, vec_len, Option, Some, None, is_some, AllPairs, refl, sym, ◌∙◌, ap, subst, inl, inr, arith}
use Rattle.std.specs.List.{filter, list_any, position_from}
use Rattle.std.proofs.lemmas.Bool.{cases_eq, eq-eqb, ne_eqb, false≢true, lt-ltb, cases_lt}
use Rattle.std.proofs.lemmas.Bool.Decides.{nat_tests}
use Rattle.std.proofs.lemmas.Option.{none-some}
use Rattle.std.proofs.lemmas.List.{get_or_past}
use Rattle.std.proofs.lemmas.List.Elements.{All-map}
use Rattle.std.proofs.lemmas.List.Kept.{AllPairs-filter}
use Rattle.md_graph.specs.declared.TheConstants.{NAMES}
use Rattle.md_refine.specs.Partitions.{Classes, is_in, is_name, class_position, holders, is_outside, class_with, ArePartition}
use Rattle.md_refine.specs.Slots.{MarkStore, numbers, home, owner, is_mark_of, is_half, stands, marked, place_names, partition_of, Keeps}
use Rattle.md_graph.specs.Linked.{times, walk}
use Rattle.md_graph.proofs.LinkedLists.{walk-follow}
use Rattle.md_refine.specs.declared.partition.Partition.TheInside.{Inside}
use Rattle.md_refine.specs.Kept.{marks_kept, partition_kept, KeepsPartition}
use Rattle.md_refine.proofs.Lists.{in_all, in_some, in_filter, in_numbers, numbers_order, in_other}

-- ---- places in order

pub in_times : (p : ℕ) (xs : List ℕ) → is_in xs p ≡ nat_lt 0 (times p xs)
in_times p [] = refl
in_times p (x ∷ xs) =
    elim (x == p) as (λ b. (b || is_in xs p) ≡ nat_lt 0 (cond b 1 0 + times p xs)) [
      | true ↦ grind (arith, nat_tests)
      | false ↦ in_times p xs ∙ grind (arith, nat_tests)
    ]

-- ---- classes at places: v is in the class at q alone

module _ (f : ℕ → List ℕ) (v q : ℕ) (same : (p : ℕ) → is_in (f p) v ≡ (p == q)) where
  holders_at : (ps : List ℕ) → holders v (map f ps) ≡ times q ps
  holders_at [] = refl
  holders_at (p ∷ ps) = rw (same p, holders_at ps) refl

  named_at : (ps : List ℕ) → is_name (map f ps) v ≡ is_in ps q
  named_at [] = refl
  named_at (p ∷ ps) = rw (same p, named_at ps) refl

  pub position_at : (k : ℕ) (ps : List ℕ) → position_from (λ c. is_in c v) k (map f ps) ≡ position_from (λ p. p == q) k ps
  position_at k [] = refl
  position_at k (p ∷ ps) = rw (same p, position_at (k + 1) ps) refl

  pub with_at : (ps : List ℕ) → is_in ps q ≡ true → class_with v (map f ps) ≡ f q
  with_at [] m = absurd (false≢true m)
  with_at (p ∷ ps) m =
      elim (cases_eq p q) [
        | inl here ↦ rw (same p, eq-eqb p q here) (ap f here)
        | inr other ↦ rw (same p, ne_eqb p q other) (with_at ps (sym (in_other p q ps other) ∙ m))
      ]

module _ (f : ℕ → List ℕ) (v : ℕ) (none : (p : ℕ) → is_in (f p) v ≡ false) where
  holders_none : (ps : List ℕ) → holders v (map f ps) ≡ 0
  holders_none [] = refl
  holders_none (p ∷ ps) = rw (none p, holders_none ps) refl

  named_none : (ps : List ℕ) → is_name (map f ps) v ≡ false
  named_none [] = refl
  named_none (p ∷ ps) = rw (none p, named_none ps) refl

  pub with_none_at : (ps : List ℕ) → class_with v (map f ps) ≡ []
  with_none_at [] = refl
  with_none_at (p ∷ ps) = rw (none p) (with_none_at ps)

  pub position_none : (k : ℕ) (ps : List ℕ) → position_from (λ c. is_in c v) k (map f ps) ≡ None
  position_none k [] = refl
  position_none k (p ∷ ps) = rw (none p, position_none (k + 1) ps) refl

-- ---- kept

turned_round : (a b : ℕ) → (a == b) ≡ (b == a)
turned_round a b = grind (arith, nat_tests)

pub where_true : (b t : Bool) → (b ≡ true → t ≡ true) → (b && t) ≡ b
where_true true t h = h refl
where_true false t h = refl

-- what is seen, where the places have this order
abbrev pub seen : MarkStore → List ℕ → Classes
seen s order = record { classes = map (place_names s) order; touched = filter (marked s) (numbers NAMES) }

module _ (s : MarkStore) (order : List ℕ) (k : Keeps s order) where
  pub in_order : (p : ℕ) → is_in order p ≡ nat_lt p s.used
  in_order p =
      in_times p order ∙ rw (k.is_order.once p) (elim (nat_lt p s.used) as (λ b. nat_lt 0 (cond b 1 0) ≡ b) [ true ↦ refl | false ↦ refl ])

  pub order_low : (p : ℕ) → is_in order p ≡ true → p < s.used
  order_low p m = let e = in_order p in grind (arith, nat_tests)

  pub low_order : (p : ℕ) → p < s.used → is_in order p ≡ true
  low_order p low = in_order p ∙ lt-ltb p s.used low

  pub shown : partition_of s ≡ seen s order
  unfolding partition_of
  shown =
      let found : walk s.nexts s.used s.first ≡ order = (λ i. walk s.nexts (sym k.is_order.long i) (k.is_order.begins i)) ∙ walk-follow s.nexts order k.is_order.follow in
      λ i. record { classes = map (place_names s) (found i); touched = filter (marked s) (numbers NAMES) }

  -- a name that has a mark is below the number of names kept
  pub name_within : (v i : ℕ) → home s v ≡ Some i → v < length s.homes
  name_within v i is =
      elim (cases_lt v (length s.homes)) [
        | inl low ↦ low
        | inr high ↦ absurd (none-some i (sym (get_or_past s.homes v None high) ∙ is))
      ]

  pub name_low : (v i : ℕ) → home s v ≡ Some i → v < NAMES
  name_low v i is = let low = name_within v i is in let few = k.homes_few in omega arith

  pub stands_home : (p v : ℕ) → stands s p v ≡ true → (i : ℕ) × (home s v ≡ Some i) × (p ≡ owner s i)
  stands_home p v m = go (home s v) refl m
    where
      go : (o : Option ℕ) → home s v ≡ o → is_mark_of s.owners p o ≡ true → (i : ℕ) × (home s v ≡ Some i) × (p ≡ owner s i)
      go None e t = absurd (false≢true t)
      go (Some i) e t = (i, e, grind (arith, nat_tests))

  pub marked_home : (v : ℕ) → marked s v ≡ true → (i : ℕ) × (home s v ≡ Some i)
  marked_home v m = go (home s v) refl m
    where
      go : (o : Option ℕ) → home s v ≡ o → is_half s o ≡ true → (i : ℕ) × (home s v ≡ Some i)
      go None e t = absurd (false≢true t)
      go (Some i) e t = (i, e)

  pub in_names : (p v : ℕ) → is_in (place_names s p) v ≡ stands s p v
  in_names p v =
      in_filter (stands s p) (numbers NAMES) v
      ∙ where_true (stands s p v) (is_in (numbers NAMES) v) (λ m. let h = stands_home p v m in in_numbers NAMES v ∙ lt-ltb v NAMES (name_low v h.0 h.1))

  pub in_touched : (v : ℕ) → is_in (filter (marked s) (numbers NAMES)) v ≡ marked s v
  in_touched v =
      in_filter (marked s) (numbers NAMES) v
      ∙ where_true (marked s v) (is_in (numbers NAMES) v) (λ m. let h = marked_home v m in in_numbers NAMES v ∙ lt-ltb v NAMES (name_low v h.0 h.1))

  pub at_home : (v i : ℕ) → home s v ≡ Some i → (p : ℕ) → is_in (place_names s p) v ≡ (p == owner s i)
  at_home v i is p = in_names p v ∙ ap (is_mark_of s.owners p) is

  pub not_home : (v : ℕ) → home s v ≡ None → (p : ℕ) → is_in (place_names s p) v ≡ false
  not_home v is p = in_names p v ∙ ap (is_mark_of s.owners p) is

  pub named : (v : ℕ) → is_name (map (place_names s) order) v ≡ is_some (home s v)
  named v = go (home s v) refl
    where
      go : (o : Option ℕ) → home s v ≡ o → is_name (map (place_names s) order) v ≡ is_some o
      go None e = named_none (place_names s) v (not_home v e) order
      go (Some i) e = named_at (place_names s) v (owner s i) (at_home v i e) order ∙ low_order (owner s i) (k.homes v i e).place

  -- v is outside the class of p where its place is no place of p
  pub outside_at : (p v i : ℕ) → home s v ≡ Some i → is_outside p (map (place_names s) order) v ≡ not (stands s (owner s i) p)
  outside_at p v i is = rw (named v, is) (go (home s p) refl)
    where
      go : (o : Option ℕ) → home s p ≡ o → not (is_in (class_with p (map (place_names s) order)) v) ≡ not (is_mark_of s.owners (owner s i) o)
      go None e = rw (with_none_at (place_names s) p (not_home p e) order) refl
      go (Some j) e =
          let own = with_at (place_names s) p (owner s j) (at_home p j e) order (low_order (owner s j) (k.homes p j e).place) in
          let turned : (owner s j == owner s i) ≡ (owner s i == owner s j) = turned_round (owner s j) (owner s i) in
          rw (own, at_home v i is (owner s j)) (ap not turned)

  pub outside_none : (p v : ℕ) → home s v ≡ None → is_outside p (map (place_names s) order) v ≡ false
  outside_none p v is = rw (named v, is) refl

  seen_partition : ArePartition (seen s order)
  seen_partition = record {
    filled = All-map (λ c. c ≢ []) (place_names s) order (in_all (λ p. place_names s p ≢ []) order (λ p m. let w = k.some p (order_low p m) in in_some (place_names s p) w.0 (in_names p w.0 ∙ w.1)));
    order = All-map (AllPairs (λ x y. x < y)) (place_names s) order (in_all (λ p. AllPairs (λ x y. x < y) (place_names s p)) order (λ p m. AllPairs-filter (λ x y. x < y) (stands s p) (numbers NAMES) (numbers_order NAMES)));
    apart = λ v. apart v (home s v) refl;
    names = λ v m. low v (home s v) refl (sym (named v) ∙ m);
    touched_order = AllPairs-filter (λ x y. x < y) (marked s) (numbers NAMES) (numbers_order NAMES);
    touched_names = λ v m. let h = marked_home v (sym (in_touched v) ∙ m) in named v ∙ ap is_some h.1;
  }
    where
      apart : (v : ℕ) (o : Option ℕ) → home s v ≡ o → holders v (map (place_names s) order) ≤ 1
      apart v None e = let z = holders_none (place_names s) v (not_home v e) order in omega arith
      apart v (Some i) e =
          let z = holders_at (place_names s) v (owner s i) (at_home v i e) order in
          let once = k.is_order.once (owner s i) in
          grind (arith, nat_tests)

      low : (v : ℕ) (o : Option ℕ) → home s v ≡ o → is_some o ≡ true → v < NAMES
      low v None e t = absurd (false≢true t)
      low v (Some i) e t = name_low v i e

  pub kept_partition : ArePartition (partition_of s)
  kept_partition = subst ArePartition (sym shown) seen_partition

-- ---- the fields of a partition

-- the partition that fields keep is what is seen of them
pub opened : (a : Inside) (p : Classes) (kept : KeepsPartition a) → partition_kept a ≡ p → p ≡ seen (marks_kept a) kept.0
opened a p kept is = sym is ∙ shown (marks_kept a) kept.0 kept.1

pub opened_partition : (a : Inside) (p : Classes) → KeepsPartition a → partition_kept a ≡ p → ArePartition p
opened_partition a p kept is = subst ArePartition is (kept_partition (marks_kept a) kept.0 kept.1)

-- a mark that a name has is one of an owner
pub mark_within : (a : Inside) → KeepsPartition a → (v i : ℕ) → home (marks_kept a) v ≡ Some i → i < vec_len a.owners
mark_within a kept v i is =
    let h = (kept.1.homes v i is).low in
    let used = kept.1.is_order.within in
    let owners = kept.1.owners_len in
    let nexts = kept.1.nexts_len in
    omega arith

-- the class of v, where it has no mark
pub no_class : (a : Inside) (p : Classes) (kept : KeepsPartition a) → partition_kept a ≡ p → (v : ℕ) → home (marks_kept a) v ≡ None → None ≡ class_position p.classes v
no_class a p kept is v none =
    sym (ap (λ (q : Classes). class_position q.classes v) (opened a p kept is) ∙ position_none (place_names (marks_kept a)) v (not_home (marks_kept a) kept.0 kept.1 v none) 0 kept.0)

-- the class of v, where it has the mark i
pub its_class : (a : Inside) (p : Classes) (kept : KeepsPartition a) → partition_kept a ≡ p → (v i : ℕ) → home (marks_kept a) v ≡ Some i → position_from (λ q. q == owner (marks_kept a) i) 0 kept.0 ≡ class_position p.classes v
its_class a p kept is v i some =
    sym (ap (λ (q : Classes). class_position q.classes v) (opened a p kept is) ∙ position_at (place_names (marks_kept a)) v (owner (marks_kept a) i) (at_home (marks_kept a) kept.0 kept.1 v i some) 0 kept.0)

-- the first position is there where a class has the name
pub position_some : (t : List ℕ → Bool) (k : ℕ) (cs : List (List ℕ)) → is_some (position_from t k cs) ≡ list_any t cs
position_some t k [] = refl
position_some t k (c ∷ cs) =
    elim (t c) as (λ b. is_some (cond b (Some k) (position_from t (k + 1) cs)) ≡ (b || list_any t cs)) [
      | true ↦ refl
      | false ↦ position_some t (k + 1) cs
    ]
