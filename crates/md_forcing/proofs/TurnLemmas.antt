-- A turn of the exploration: what the arc at hand forces and isn't seen is pushed, and taken in.
use Rattle.std.proofs.Common.{◌≡◌, ◌⊎◌, ◌↔◌, ℕ, ◌<◌, Bool, true, List, [], ◌∷◌, ◌++◌, map, append_assoc, slice_get, Some, refl, sym, ◌∙◌, ap, subst, inl, inr, true≢false}
use Rattle.std.proofs.lemmas.Bool.{false_from_ne_true}
use Rattle.std.proofs.lemmas.List.{append-nil, map-append}
use Rattle.std.specs.FinSet as set
use Rattle.md_graph.specs.declared.TheConstants.{NAMES}
use Rattle.md_graph.specs.Sets.{NameSet, Has}
use Rattle.md_graph.specs.NameSet.{ascending}
use Rattle.md_graph.proofs.NameLemmas.{ascending_none}
use Rattle.md_graph.proofs.SetLaws.{contains-empty}
use Rattle.md_forcing.specs.declared.arc.Arc.{Arc}
use Rattle.md_forcing.specs.Lists.{Holds, NoRepeats}
use Rattle.md_forcing.specs.Forcing.{arc, IsArc, ForceAtTail, ForceAtHead, ForcesDirectly}
use Rattle.md_forcing.specs.ArcSet.{HasArc}
use Rattle.md_forcing.specs.Turns.{TakesForced, tail_entry, head_entry, placed_at}
use Rattle.md_forcing.proofs.ListLemmas.{holds_left, holds_right, of_append, once_append, holds_map, of_map, once_map}
use Rattle.md_forcing.proofs.NameLists.{of_ascending, in_ascending, ascending_once}

-- the arc from w to `head`
abbrev pub arc_to : ℕ → ℕ → Arc
arc_to head w = arc w head

abbrev pub NewHeads : (ℕ → ℕ → Bool) → List NameSet → Arc → NameSet → Type 0
NewHeads e seen by heads = (w : ℕ) → Has heads w ↔ (IsArc e (arc by.tail w) × ForceAtTail e by (arc by.tail w) × (HasArc seen (arc by.tail w) → ⊥))

abbrev pub NewTails : (ℕ → ℕ → Bool) → List NameSet → Arc → NameSet → Type 0
NewTails e seen by tails = (w : ℕ) → Has tails w ↔ (IsArc e (arc w by.head) × ForceAtHead e by (arc w by.head) × (HasArc seen (arc w by.head) → ⊥))

tail_entries : (tail place : ℕ) (xs : List ℕ) → map (tail_entry tail place) xs ≡ map (placed_at place) (map (arc tail) xs)
tail_entries tail place [] = refl
tail_entries tail place (x ∷ xs) = ap (λ l. tail_entry tail place x ∷ l) (tail_entries tail place xs)

head_entries : (head place : ℕ) (xs : List ℕ) → map (head_entry head place) xs ≡ map (placed_at place) (map (arc_to head) xs)
head_entries head place [] = refl
head_entries head place (x ∷ xs) = ap (λ l. head_entry head place x ∷ l) (head_entries head place xs)

-- ---- where there is nothing

no_member : (s : NameSet) → s ≡ set.empty → (w : ℕ) → Has s w → ⊥
no_member s none w h = true≢false (sym h ∙ ap (λ t. set.contains t w) none ∙ contains-empty w)

nothing_listed : {X : Type 0} (f : ℕ → X) (s : NameSet) (old : List X) → s ≡ set.empty → old ≡ old ++ map f (ascending s)
nothing_listed f s old none =
    sym (append-nil old) ∙ ap (λ l. old ++ map f l) (sym (ascending_none s 0 NAMES (λ w above below. false_from_ne_true _ (no_member s none w))))

-- ---- a turn

module _ (e : ℕ → ℕ → Bool) (names : (u v : ℕ) → e u v ≡ true → (u < NAMES) × (v < NAMES)) (seen : List NameSet) (by : Arc) (heads tails : NameSet) (is_heads : NewHeads e seen by heads) (is_tails : NewTails e seen by tails) where
  abbrev from_tail : List Arc
  from_tail = map (arc by.tail) (ascending heads)

  abbrev to_head : List Arc
  to_head = map (arc_to by.head) (ascending tails)

  -- the arcs found
  abbrev pub found_arcs : List Arc
  found_arcs = from_tail ++ to_head

  of_heads : (b : Arc) → Holds from_tail b → (b.tail ≡ by.tail) × Has heads b.head
  of_heads b h =
      let w = of_map (arc by.tail) (ascending heads) b h in
      (ap (λ a. a.tail) w.2, subst (Has heads) (sym (ap (λ a. a.head) w.2)) (of_ascending heads NAMES w.0 w.1).0)

  in_heads : (b : Arc) → (b.tail ≡ by.tail) × Has heads b.head → Holds from_tail b
  in_heads b p =
      let same : arc by.tail b.head ≡ b = λ i. record { tail = sym p.0 i; head = b.head } in
      let name = names by.tail b.head ((is_heads b.head).0 p.1).0 in
      subst (Holds from_tail) same (holds_map (arc by.tail) (ascending heads) b.head (in_ascending heads NAMES b.head p.1 name.1))

  of_tails : (b : Arc) → Holds to_head b → (b.head ≡ by.head) × Has tails b.tail
  of_tails b h =
      let w = of_map (arc_to by.head) (ascending tails) b h in
      (ap (λ a. a.head) w.2, subst (Has tails) (sym (ap (λ a. a.tail) w.2)) (of_ascending tails NAMES w.0 w.1).0)

  in_tails : (b : Arc) → (b.head ≡ by.head) × Has tails b.tail → Holds to_head b
  in_tails b p =
      let same : arc b.tail by.head ≡ b = λ i. record { tail = b.tail; head = sym p.0 i } in
      let name = names b.tail by.head ((is_tails b.tail).0 p.1).0 in
      subst (Holds to_head) same (holds_map (arc_to by.head) (ascending tails) b.tail (in_ascending tails NAMES b.tail p.1 name.0))

  -- no arc is found at both ends
  not_both : (b : Arc) → (b.tail ≡ by.tail) × Has heads b.head → b.head ≡ by.head → ⊥
  not_both b p same = ((is_heads b.head).0 p.1).1.1 (sym same)

  found_once : NoRepeats found_arcs
  found_once = once_append from_tail to_head
      (once_map (arc by.tail) (ascending heads) (λ x z _ _ s. ap (λ a. a.head) s) (ascending_once heads NAMES))
      (once_map (arc_to by.head) (ascending tails) (λ x z _ _ s. ap (λ a. a.tail) s) (ascending_once tails NAMES))
      (λ b l r. not_both b (of_heads b l) (of_tails b r).0)

  abbrev pub IsNew : Arc → Type 0
  IsNew b = IsArc e b × ForcesDirectly e by b × (HasArc seen b → ⊥)

  found_exactly : (b : Arc) → Holds found_arcs b ↔ IsNew b
  found_exactly b = (
    λ h. elim (of_append from_tail to_head b h) [
      | inl l ↦
          let p = of_heads b l in
          let same : arc by.tail b.head ≡ b = λ i. record { tail = sym p.0 i; head = b.head } in
          let w = (is_heads b.head).0 p.1 in
          subst IsNew same (w.0, inl w.1, w.2)
      | inr r ↦
          let p = of_tails b r in
          let same : arc b.tail by.head ≡ b = λ i. record { tail = b.tail; head = sym p.0 i } in
          let w = (is_tails b.tail).0 p.1 in
          subst IsNew same (w.0, inr w.1, w.2)
    ],
    λ n. elim n.1 as (λ _. Holds found_arcs b) [
      | inl f ↦
          let same : b ≡ arc by.tail b.head = λ i. record { tail = sym f.0 i; head = b.head } in
          let P : Arc → Type 0 = λ x. IsArc e x × ForceAtTail e by x × (HasArc seen x → ⊥) in
          let at_tail : P (arc by.tail b.head) = subst P same (n.0, f, n.2) in
          holds_left from_tail to_head b (in_heads b (sym f.0, (is_heads b.head).1 at_tail))
      | inr f ↦
          let same : b ≡ arc b.tail by.head = λ i. record { tail = b.tail; head = sym f.0 i } in
          let P : Arc → Type 0 = λ x. IsArc e x × ForceAtHead e by x × (HasArc seen x → ⊥) in
          let at_head : P (arc b.tail by.head) = subst P same (n.0, f, n.2) in
          holds_right from_tail to_head b (in_tails b (sym f.0, (is_tails b.tail).1 at_head))
    ],
  )

  found_longer : (place : ℕ) (old mid new : List (Arc × ℕ)) → mid ≡ old ++ map (tail_entry by.tail place) (ascending heads) → new ≡ mid ++ map (head_entry by.head place) (ascending tails) → new ≡ old ++ map (placed_at place) found_arcs
  found_longer place old mid new first second =
      second
      ∙ ap (λ l. l ++ map (head_entry by.head place) (ascending tails)) first
      ∙ append_assoc old _ _
      ∙ (λ i. old ++ (tail_entries by.tail place (ascending heads) i ++ head_entries by.head place (ascending tails) i))
      ∙ ap (λ l. old ++ l) (sym (map-append (placed_at place) from_tail to_head))

  found_taken : (mid new : List NameSet) → ((a : Arc) → HasArc mid a ↔ (HasArc seen a ⊎ ((a.tail ≡ by.tail) × Has heads a.head))) → ((a : Arc) → HasArc new a ↔ (HasArc mid a ⊎ ((a.head ≡ by.head) × Has tails a.tail))) → (b : Arc) → HasArc new b ↔ (HasArc seen b ⊎ Holds found_arcs b)
  found_taken mid new first second b = (
    λ h. elim ((second b).0 h) [
      | inl m ↦ elim ((first b).0 m) [
        | inl old ↦ inl old
        | inr p ↦ inr (holds_left from_tail to_head b (in_heads b p))
      ]
      | inr p ↦ inr (holds_right from_tail to_head b (in_tails b p))
    ],
    λ h. elim h [
      | inl old ↦ (second b).1 (inl ((first b).1 (inl old)))
      | inr more ↦ elim (of_append from_tail to_head b more) [
        | inl l ↦ (second b).1 (inl ((first b).1 (inr (of_heads b l))))
        | inr r ↦ (second b).1 (inr (of_tails b r))
      ]
    ],
  )

  pub found_turn : (place its_place : ℕ) (old mid new : List (Arc × ℕ)) (mid_seen new_seen : List NameSet) → slice_get old place ≡ Some (by, its_place) → mid ≡ old ++ map (tail_entry by.tail place) (ascending heads) → new ≡ mid ++ map (head_entry by.head place) (ascending tails) → ((a : Arc) → HasArc mid_seen a ↔ (HasArc seen a ⊎ ((a.tail ≡ by.tail) × Has heads a.head))) → ((a : Arc) → HasArc new_seen a ↔ (HasArc mid_seen a ⊎ ((a.head ≡ by.head) × Has tails a.tail))) → TakesForced e place seen old new_seen new
  found_turn place its_place old mid new mid_seen new_seen stands first second taken_first taken_second = record {
    by = by;
    its_place = its_place;
    stands = stands;
    more = found_arcs;
    longer = found_longer place old mid new first second;
    once = found_once;
    exactly = found_exactly;
    taken = found_taken mid_seen new_seen taken_first taken_second;
  }

  -- the same where nothing is found
  pub nothing_found : (place its_place : ℕ) (trail : List (Arc × ℕ)) → slice_get trail place ≡ Some (by, its_place) → heads ≡ set.empty → tails ≡ set.empty → TakesForced e place seen trail seen trail
  nothing_found place its_place trail stands no_head no_tail =
      found_turn place its_place trail trail trail seen seen stands (nothing_listed (tail_entry by.tail place) heads trail no_head) (nothing_listed (head_entry by.head place) tails trail no_tail)
      (λ a. (inl, λ h. elim h [ inl m ↦ m | inr p ↦ absurd (no_member heads no_head a.head p.1) ]))
      (λ a. (inl, λ h. elim h [ inl m ↦ m | inr p ↦ absurd (no_member tails no_tail a.tail p.1) ]))
