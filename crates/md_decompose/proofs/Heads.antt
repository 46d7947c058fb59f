-- The least names of sets in order, put down one after the other.
use Rattle.std.proofs.Common.{◌≡◌, ◌≢◌, ℕ, zero, suc, ◌+◌, ◌<◌, ◌≤◌, ◌⊎◌, List, AllPairs, length, get_or, refl, sym, ◌∙◌, subst, inl, inr, arith, get_or-set_other, get_or-set_same}
use Rattle.std.proofs.Math.ListN.{set, length-set}
use Rattle.std.proofs.lemmas.Bool.{cases_lt}
use Rattle.std.proofs.lemmas.List.{get_or_default}
use Rattle.std.specs.FinSet.{empty, insert}
use Rattle.md_graph.specs.NameSet.{IsLeastFrom, NoneFrom}
use Rattle.md_graph.specs.Sets.{NameSet, Has, HasSome}
use Rattle.md_graph.proofs.SetLemmas.{clash, empty_lacks, insert_new, insert_old, of_insert}
use Rattle.md_tree.specs.StrongTrees.{IsBefore}
use Rattle.md_decompose.specs.Children.{set_at}
use Rattle.md_decompose.specs.Heads.{HoldsHeads, RisesOn}

-- the heads of the first n sets, none of which is below its place
pub record IsHeading (cs : List NameSet) (n : ℕ) (heads : NameSet) (places : List ℕ) : Type 0 where
  pub heads_of : HoldsHeads cs n heads places
  pub room : (k v : ℕ) → k < length cs → Has (set_at cs k) v → v < length places
  pub early : (a : ℕ) → Has heads a → get_or places a 0 ≤ a

pub heading_none : (cs : List NameSet) (heads : NameSet) (places : List ℕ) → heads ≡ empty → ((k v : ℕ) → k < length cs → Has (set_at cs k) v → v < length places) → IsHeading cs 0 heads places
heading_none cs heads places is room = record {
  heads_of = record { below = λ a h. absurd (none a h); least = λ a h. absurd (none a h); each = λ k h. absurd (omega arith) };
  room = room;
  early = λ a h. absurd (none a h);
} where
  none : (a : ℕ) → Has heads a → ⊥
  none a h = clash (subst (λ s. Has s a) is h) (empty_lacks a)

module _ (cs : List NameSet) (order : AllPairs IsBefore cs) where
  -- a head of an earlier set is below all names of a later one
  pub head_below : (i j a x : ℕ) → i < j → j < length cs → IsLeastFrom (set_at cs i) 0 a → Has (set_at cs j) x → a < x
  head_below i j a x up room least h =
      let is : IsBefore (set_at cs i) (set_at cs j) = order i j empty up room in
      let p : a ≤ is.0 = least.first is.0 is.1 (omega arith) in
      let q : is.0 < x = is.2 x h in
      omega arith

  module _ (n : ℕ) (heads : NameSet) (places : List ℕ) (heading : IsHeading cs n heads places) (h : ℕ) (room : n < length cs) (least : IsLeastFrom (set_at cs n) 0 h) where
    head_before : (a : ℕ) → Has heads a → a < h
    head_before a k = head_below (get_or places a 0) n a h (heading.heads_of.below a k) room (heading.heads_of.least a k) least.member

    -- the position of a set is at most its head
    place_low : (m : ℕ) → m ≡ n → m ≤ h
    place_low zero e = omega arith
    place_low (suc m) e =
        let r : (a : ℕ) × Has heads a × (get_or places a 0 ≡ m) = heading.heads_of.each m (omega arith) in
        let p : get_or places r.0 0 ≤ r.0 = heading.early r.0 r.1 in
        let q : r.0 < h = head_before r.0 r.1 in
        let s : get_or places r.0 0 ≡ m = r.2 in
        omega arith

    pub place_fits : n ≤ h
    place_fits = let p : n ≤ h = place_low n refl in p

    here : get_or (set places h n) h 0 ≡ n
    here = let lt : h < length places = heading.room n h room least.member in rw get_or-set_same refl

    other : (a : ℕ) → Has heads a → get_or (set places h n) a 0 ≡ get_or places a 0
    other a k = let b : a < h = head_before a k in let ne : a ≢ h = omega arith in rw get_or-set_other refl

    more_each : (k : ℕ) → k < n + 1 → (k < n) ⊎ (k ≡ n) → (a : ℕ) × Has (insert heads h) a × (get_or (set places h n) a 0 ≡ k)
    more_each k b (inl l) =
        let r : (a : ℕ) × Has heads a × (get_or places a 0 ≡ k) = heading.heads_of.each k l in
        (r.0, insert_old heads h r.0 r.1, other r.0 r.1 ∙ r.2)
    more_each k b (inr e) = (h, insert_new heads h, here ∙ sym e)

    more_heads : HoldsHeads cs (n + 1) (insert heads h) (set places h n)
    more_heads = record {
      below = λ a k. elim (of_insert heads h a k) [
        | inl e ↦ subst (λ w. get_or (set places h n) w 0 < n + 1) (sym e) (let p : get_or (set places h n) h 0 ≡ n = here in omega arith)
        | inr k' ↦ let p : get_or places a 0 < n = heading.heads_of.below a k' in let q : get_or (set places h n) a 0 ≡ get_or places a 0 = other a k' in omega arith
      ];
      least = λ a k. elim (of_insert heads h a k) [
        | inl e ↦ subst (λ w. IsLeastFrom (set_at cs (get_or (set places h n) w 0)) 0 w) (sym e) (subst (λ w. IsLeastFrom (set_at cs w) 0 h) (sym here) least)
        | inr k' ↦ subst (λ w. IsLeastFrom (set_at cs w) 0 a) (sym (other a k')) (heading.heads_of.least a k')
      ];
      each = λ k b. more_each k b (cases_lt_or_same k n b);
    } where
      cases_lt_or_same : (k n : ℕ) → k < n + 1 → (k < n) ⊎ (k ≡ n)
      cases_lt_or_same zero zero b = inr refl
      cases_lt_or_same zero (suc n) b = inl (omega arith)
      cases_lt_or_same (suc k) zero b = absurd (omega arith)
      cases_lt_or_same (suc k) (suc n) b = elim (cases_lt_or_same k n (omega arith)) [ inl l ↦ inl (omega arith) | inr e ↦ inr (omega arith) ]

-- a head has a place
pub head_room : (cs : List NameSet) (n h : ℕ) (c heads : NameSet) (places : List ℕ) → IsHeading cs n heads places → n < length cs → c ≡ get_or cs n c → IsLeastFrom c 0 h → h < length places
head_room cs n h c heads places heading room is least =
    heading.room n h room (subst (λ t. Has t h) (is ∙ get_or_default cs n c empty room) least.member)

-- the turns of the heads of sets
module _ (cs : List NameSet) (order : AllPairs IsBefore cs) where
  abbrev least_at : (n h : ℕ) (c : NameSet) → c ≡ get_or cs n c → n < length cs → IsLeastFrom c 0 h → IsLeastFrom (set_at cs n) 0 h
  least_at n h c is room least = subst (λ t. IsLeastFrom t 0 h) (is ∙ get_or_default cs n c empty room) least

  pub heading_turn : (n h : ℕ) (c : NameSet) (heads heads' : NameSet) (places : List ℕ) → IsHeading cs n heads places → n < length cs → c ≡ get_or cs n c → IsLeastFrom c 0 h →
      heads' ≡ insert heads h → IsHeading cs (n + 1) heads' (set places h n)
  heading_turn n h c heads heads' places heading room is least same =
      subst (λ t. IsHeading cs (n + 1) t (set places h n)) (sym same) (record {
        heads_of = more_heads cs order n heads places heading h room at_n;
        room = λ k v l m. subst (λ z. v < z) (sym (length-set places h n)) (heading.room k v l m);
        early = λ a k. elim (of_insert heads h a k) [
          | inl e ↦ subst (λ w. get_or (set places h n) w 0 ≤ w) (sym e)
              (let p : get_or (set places h n) h 0 ≡ n = here cs order n heads places heading h room at_n in let q : n ≤ h = place_fits cs order n heads places heading h room at_n in omega arith)
          | inr k' ↦ (
              let p : get_or (set places h n) a 0 ≡ get_or places a 0 = other cs order n heads places heading h room at_n a k' in
              let q : get_or places a 0 ≤ a = heading.early a k' in
              omega arith)
        ];
      })
    where
      at_n : IsLeastFrom (set_at cs n) 0 h
      at_n = least_at n h c is room least

  pub heading_place : (n h : ℕ) (c : NameSet) (heads : NameSet) (places : List ℕ) → IsHeading cs n heads places → n < length cs → c ≡ get_or cs n c → IsLeastFrom c 0 h → n ≤ h
  heading_place n h c heads places heading room is least = place_fits cs order n heads places heading h room (least_at n h c is room least)

  pub no_heads : {A : Type 0} (n : ℕ) (c : NameSet) → ((k : ℕ) → k < length cs → HasSome (set_at cs k)) → n < length cs → c ≡ get_or cs n c → NoneFrom c 0 → A
  no_heads n c some room is none =
      let x : HasSome (set_at cs n) = some n room in
      let b : x.0 < 0 = none x.0 (subst (λ t. Has t x.0) (sym (is ∙ get_or_default cs n c empty room)) x.1) in
      absurd (omega arith)

  -- of two heads the later one has the higher place
  pub heads_rise : (n : ℕ) (heads : NameSet) (places : List ℕ) → n ≤ length cs → HoldsHeads cs n heads places → RisesOn heads places
  heads_rise n heads places room is a b ha hb up =
      elim (cases_lt (get_or places a 0) (get_or places b 0)) [
        | inl l ↦ l
        | inr le ↦ elim (cases_lt (get_or places b 0) (get_or places a 0)) [
          | inl l ↦ (
              let p : get_or places a 0 < n = is.below a ha in
              let q : b < a = head_below cs order (get_or places b 0) (get_or places a 0) b a l (omega arith) (is.least b hb) (is.least a ha).member in
              absurd (omega arith))
          | inr ge ↦ (
              let same : get_or places a 0 ≡ get_or places b 0 = omega arith in
              let q : b ≤ a = (is.least b hb).first a (subst (λ k. Has (set_at cs k) a) same (is.least a ha).member) (omega arith) in
              absurd (omega arith))
        ]
      ]
