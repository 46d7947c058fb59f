-- What levels say of lists of arcs: an arc of level k is k steps away from the first, and no list is shorter.
use Rattle.std.proofs.Common.{◌≡◌, ◌↔◌, ℕ, zero, suc, ◌+◌, ◌-◌, ◌<◌, ◌≤◌, Bool, true, ◌==◌, List, [], ◌∷◌, ◌++◌, length, length-append, slice_get, Option, Some, None, refl, sym, ◌∙◌, ap, subst, inl, inr, arith}
use Rattle.std.proofs.lemmas.Bool.{cases_lt, eqb-true}
use Rattle.std.proofs.lemmas.Bool.Decides.{nat_tests}
use Rattle.md_graph.proofs.Search.{Decided, decide_like}
use Rattle.md_forcing.specs.declared.arc.Arc.{Arc}
use Rattle.md_forcing.specs.Lists.{Holds}
use Rattle.md_forcing.specs.Forcing.{arc, reverse, IsArc, ForcesDirectly, Leads, IsListToReverse}
use Rattle.md_forcing.proofs.ListLemmas.{same_some}
use Rattle.md_forcing.proofs.Reaching.{leads_push}
use Rattle.md_comparability.specs.Chains.{IsForcingChain, IsShortestChain}
use Rattle.md_comparability.proofs.Cutting.{list_no_longer}
use Rattle.md_comparability.proofs.Deciding.{decide_holds}
use Rattle.md_comparability.proofs.Shortest.{one_begin}
use Rattle.md_levels.specs.Levels.{InLevel, InLevelTo, IsForcedFrom, AreLevels}

-- whether a list, if there is one, has the arc
decide_in : (o : Option (List Arc)) (a : Arc) → Decided ((list : List Arc) × (o ≡ Some list) × Holds list a)
decide_in None a = inr (λ h. let (list, s, held) = h in cc)
decide_in (Some l) a =
    decide_like (λ h. (l, refl, h)) (λ h. let (list, s, held) = h in subst (λ x. Holds x a) (same_some list l (sym s)) held) (decide_holds l a)

decide_level : (levels : List (List Arc)) (k : ℕ) (a : Arc) → Decided (InLevel levels k a)
decide_level levels k a = decide_in (slice_get levels k) a

decide_to : (levels : List (List Arc)) (k : ℕ) (a : Arc) → Decided (InLevelTo levels k a)
decide_to levels zero a =
    decide_like (λ h. (0, omega arith, h)) (λ h. let (j, low, there) = h in let here : j ≡ 0 = omega arith in subst (λ n. InLevel levels n a) here there) (decide_level levels 0 a)
decide_to levels (suc k) a =
    elim (decide_to levels k a) [
      | inl h ↦ let (j, low, there) = h in inl (j, omega arith, there)
      | inr none ↦ elim (decide_level levels (suc k) a) [
        | inl here ↦ inl (suc k, omega arith, here)
        | inr not_here ↦ inr (λ h.
            let (j, low, there) = h in
            elim (cases_lt j (suc k)) [
              | inl less ↦ none (j, omega arith, there)
              | inr last ↦ let same : j ≡ suc k = omega arith in not_here (subst (λ n. InLevel levels n a) same there)
            ])
      ]
    ]

module _ (e : ℕ → ℕ → Bool) (first : Arc) (levels : List (List Arc)) (are : AreLevels e first levels) where
  in_first : InLevel levels 0 first
  in_first = (first ∷ [], are.begins, inl refl)

  of_first : (a : Arc) → InLevel levels 0 a → a ≡ first
  of_first a h =
      let (list, s, held) = h in
      let same : list ≡ first ∷ [] = same_some list (first ∷ []) (sym s ∙ are.begins) in
      elim (subst (λ l. Holds l a) same held) [ inl is ↦ is | inr none ↦ absurd none ]

  -- what an arc of a level forces is at most one level further
  level_forces : (k : ℕ) (a b : Arc) → InLevel levels k a → IsArc e b → ForcesDirectly e a b → InLevelTo levels (suc k) b
  level_forces k a b there is f =
      elim (decide_to levels k b) [
        | inl h ↦ let (j, low, here) = h in (j, omega arith, here)
        | inr none ↦ (suc k, omega arith, (are.next k b).1 (is, (a, there, f), none))
      ]

  to_forces : (k : ℕ) (a b : Arc) → InLevelTo levels k a → IsArc e b → ForcesDirectly e a b → InLevelTo levels (suc k) b
  to_forces k a b h is f =
      let (j, low, there) = h in
      let (i, below, here) = level_forces j a b there is f in
      (i, omega arith, here)

  led_level : (list : List Arc) (a b : Arc) (k : ℕ) → InLevelTo levels k a → Leads e a list b → InLevelTo levels (k + length list) b
  led_level [] a b k h same =
      let (j, low, there) = subst (InLevelTo levels k) same h in
      (j, omega arith, there)
  led_level (c ∷ list) a b k h leads =
      let (j, low, there) = led_level list c b (suc k) (to_forces k a c h leads.0 leads.1) leads.2 in
      (j, omega arith, there)

  not_later : (j k : ℕ) (a : Arc) → j < k → InLevel levels j a → InLevel levels k a → ⊥
  not_later j zero a less near far = omega arith
  not_later j (suc k) a less near far = ((are.next k a).0 far).2 (j, omega arith, near)

  one_level : (j k : ℕ) (a : Arc) → InLevel levels j a → InLevel levels k a → j ≡ k
  one_level j k a near far =
      elim (cases_lt j k) [
        | inl less ↦ absurd (not_later j k a less near far)
        | inr not_less ↦ elim (cases_lt k j) [
          | inl more ↦ absurd (not_later k j a more far near)
          | inr not_more ↦ omega arith
        ]
      ]

  no_shorter : (k : ℕ) (list : List Arc) (b : Arc) → InLevel levels k b → Leads e first list b → k ≤ length list
  no_shorter k list b there leads =
      let (j, low, here) = led_level list first b 0 (0, omega arith, in_first) leads in
      let same = one_level k j b there here in
      omega arith

  -- so many arcs lead to an arc of a level as its number says
  level_led : (k : ℕ) (b : Arc) → InLevel levels k b → (list : List Arc) × (length list ≡ k) × Leads e first list b
  level_led zero b there = ([], refl, sym (of_first b there))
  level_led (suc k) b there =
      let (is, from, none) = (are.next k b).0 there in
      let (a, before, f) = from in
      let (list, many, leads) = level_led k a before in
      let longer = length-append list (b ∷ []) in
      (list ++ b ∷ [], omega arith, leads_push e first list a b leads is f)

  module _ (chain : List Arc) (is : IsForcingChain e chain) (begins : slice_get chain 0 ≡ Some first) (steps : ℕ) (there : InLevel levels steps (reverse first)) where
    first_is : first ≡ arc is.u is.v
    first_is = same_some first (arc is.u is.v) (sym begins ∙ ap (λ l. slice_get l 0) is.turns.begins)

    long : length chain ≡ suc (length is.turns.rest)
    long = ap length is.turns.begins

    pub not_empty : 0 < length chain
    not_empty = let l = long in omega arith

    -- each forcing chain has more arcs than steps
    more_than : (other : List Arc) → IsForcingChain e other → steps < length other
    more_than other that =
        let same = one_begin e chain other is that in
        let first_that : arc that.u that.v ≡ first = (λ i. arc (same.0 i) (same.1 i)) ∙ sym first_is in
        let leads : Leads e first that.turns.rest (reverse first) = subst (λ a. Leads e a that.turns.rest (reverse a)) first_that that.turns.leads in
        let few = no_shorter steps that.turns.rest (reverse first) there leads in
        let whole = ap length that.turns.begins in
        omega arith

    -- and some forcing chain has one more
    as_short : (other : List Arc) × IsForcingChain e other × (length other ≤ suc steps)
    as_short =
        let (list, many, leads) = level_led steps (reverse first) there in
        let P : Arc → Type 0 = λ a. Leads e a list (reverse a) in
        let cut = list_no_longer e (arc is.u is.v) list is.turns.starts (subst P first_is leads) in
        let few = cut.2 in
        let other : IsForcingChain e cut.0 = record { u = is.u; v = is.v; ascending = is.ascending; turns = cut.1; least = is.least } in
        (cut.0, other, omega arith)

    pub told_shortest : (length chain - 1 == steps) ≡ true ↔ IsShortestChain e chain
    told_shortest = (
      λ t.
          let same = eqb-true (length chain - 1) steps t in
          record {
            chain = is;
            shortest = λ other that. let more = more_than other that in let some = not_empty in omega arith;
          },
      λ shortest.
          let (other, that, few) = as_short in
          let at_most = shortest.shortest other that in
          let more = more_than chain is in
          let same : length chain - 1 ≡ steps = omega arith in
          grind (arith, nat_tests, same),
    )

-- the reverse of the first arc of a forcing chain is in some level
pub reverse_there : (e : ℕ → ℕ → Bool) (first : Arc) (levels : List (List Arc)) → AreLevels e first levels → (chain : List Arc) → IsForcingChain e chain → slice_get chain 0 ≡ Some first → ((k : ℕ) → InLevel levels k (reverse first) → ⊥) → ⊥
reverse_there e first levels are chain is begins none =
    let first_is : first ≡ arc is.u is.v = same_some first (arc is.u is.v) (sym begins ∙ ap (λ l. slice_get l 0) is.turns.begins) in
    let P : Arc → Type 0 = λ a. Leads e a is.turns.rest (reverse a) in
    let (j, low, there) = led_level e first levels are is.turns.rest first (reverse first) 0 (0, omega arith, in_first e first levels are) (subst P (sym first_is) is.turns.leads) in
    none j there
