-- A graph with a forcing chain has a shortest one: lists of k arcs are decided, and the least k is taken.
use Rattle.std.proofs.Common.{◌≡◌, ℕ, zero, suc, ◌+◌, ◌<◌, ◌≤◌, Bool, List, [], ◌∷◌, length, refl, sym, ap, subst, inl, inr, arith}
use Rattle.md_graph.specs.Adjacency.{IsAdjacency}
use Rattle.md_graph.proofs.Search.{Decided, decide_three, decide_like}
use Rattle.md_forcing.specs.declared.arc.Arc.{Arc}
use Rattle.md_forcing.specs.Lists.{Holds}
use Rattle.md_forcing.specs.Forcing.{arc, IsArc, ForcesDirectly, Leads, IsListToReverse}
use Rattle.md_comparability.specs.Chains.{IsForcingChain, HasForcingChain, IsShortestChain}
use Rattle.md_comparability.specs.Laws.{IsBelow, ChainHasShortest}
use Rattle.md_comparability.proofs.ArcLists.{has_list}
use Rattle.md_comparability.proofs.Deciding.{decide_either, decide_arc, decide_is_arc, decide_forces}
use Rattle.md_comparability.proofs.Least.{search_below, precedes_or_same}
use Rattle.md_comparability.proofs.Cutting.{list_no_longer}

-- some arc of the list has the property
abbrev SomeOf : (Arc → Type 0) → List Arc → Type 0
SomeOf Q l = (c : Arc) × Holds l c × Q c

decide_some : (Q : Arc → Type 0) → ((c : Arc) → Decided (Q c)) → (l : List Arc) → Decided (SomeOf Q l)
decide_some Q decided [] = inr (λ s. s.1)
decide_some Q decided (d ∷ l) =
    elim (decided d) [
      | inl here ↦ inl (d, inl refl, here)
      | inr not_here ↦ elim (decide_some Q decided l) [
        | inl s ↦ inl (s.0, inr s.1, s.2)
        | inr none ↦ inr (λ s. elim s.1 [ inl same ↦ not_here (subst Q same s.2) | inr rest ↦ none (s.0, rest, s.2) ])
      ]
    ]

module _ (e : ℕ → ℕ → Bool) where
  -- k arcs lead from a to b, a not counted
  abbrev LeadsIn : ℕ → Arc → Arc → Type 0
  LeadsIn k a b = (list : List Arc) × (length list ≡ k) × Leads e a list b

  -- c is forced by a, and k arcs lead on to b
  abbrev LeadsOver : ℕ → Arc → Arc → Arc → Type 0
  LeadsOver k a b c = IsArc e c × ForcesDirectly e a c × LeadsIn k c b

  no_arcs : (list : List Arc) (a b : Arc) → length list ≡ 0 → Leads e a list b → a ≡ b
  no_arcs [] a b none same = same
  no_arcs (c ∷ list) a b none leads = absurd (omega (arith, none))

  first_arc : (l : List Arc) → ((c : Arc) → IsArc e c → Holds l c) → (list : List Arc) (k : ℕ) (a b : Arc) → length list ≡ suc k → Leads e a list b → SomeOf (LeadsOver k a b) l
  first_arc l all [] k a b some leads = absurd (omega (arith, some))
  first_arc l all (c ∷ list) k a b some leads =
      let rest : LeadsIn k c b = (list, omega (arith, some), leads.2) in
      let over : LeadsOver k a b c = (leads.0, leads.1, rest) in
      (c, all c leads.0, over)

  arc_more : (l : List Arc) (k : ℕ) (a b : Arc) → SomeOf (LeadsOver k a b) l → LeadsIn (suc k) a b
  arc_more l k a b s =
      let over : LeadsOver k a b s.0 = s.2 in
      let rest : LeadsIn k s.0 b = over.2 in
      let long = rest.1 in
      (s.0 ∷ rest.0, omega arith, (over.0, over.1, rest.2))

  decide_leads : (l : List Arc) → ((c : Arc) → IsArc e c → Holds l c) → (k : ℕ) (a b : Arc) → Decided (LeadsIn k a b)
  decide_leads l all zero a b = decide_like (λ same. ([], refl, same)) (λ r. no_arcs r.0 a b r.1 r.2) (decide_arc a b)
  decide_leads l all (suc k) a b =
      decide_like (arc_more l k a b) (λ r. first_arc l all r.0 k a b r.1 r.2)
      (decide_some (LeadsOver k a b) (λ c. decide_three (decide_is_arc e c) (decide_forces e a c) (decide_leads l all k c b)) l)

  -- all forcing chains begin with one arc
  pub one_begin : (list other : List Arc) (is : IsForcingChain e list) (that : IsForcingChain e other) → (that.u ≡ is.u) × (that.v ≡ is.v)
  one_begin list other is that =
      elim (precedes_or_same that.u that.v is.u is.v) [
        | inl before ↦ absurd (is.least that.u that.v other that.ascending that.turns before)
        | inr rest ↦ elim rest [
          | inl behind ↦ absurd (that.least is.u is.v list is.ascending is.turns behind)
          | inr same ↦ same
        ]
      ]

  other_leads : (list other : List Arc) (is : IsForcingChain e list) (that : IsForcingChain e other) → LeadsIn (length that.turns.rest) (arc is.u is.v) (arc is.v is.u)
  other_leads list other is that =
      let same = one_begin list other is that in
      let P : ℕ → ℕ → Type 0 = λ u v. LeadsIn (length that.turns.rest) (arc u v) (arc v u) in
      subst (λ u. P u is.v) same.0 (subst (P that.u) same.1 (that.turns.rest, refl, that.turns.leads))

pub shortest_proof : ChainHasShortest
shortest_proof e adjacency n below has =
    let is = has.1 in
    let arcs = has_list (IsArc e) (decide_is_arc e) n (λ c a. below c.tail c.head a) in
    let decided : (k : ℕ) → Decided (LeadsIn e k (arc is.u is.v) (arc is.v is.u)) = λ k. decide_leads e arcs.0 (λ c. (arcs.1 c).1) k (arc is.u is.v) (arc is.v is.u) in
    elim (search_below (λ k. LeadsIn e k (arc is.u is.v) (arc is.v is.u)) decided (suc (length is.turns.rest))) [
      | inl found ↦
          let least = found.2.has in
          let short = list_no_longer e (arc is.u is.v) least.0 is.turns.starts least.2 in (
            short.0,
            record {
              chain = record { u = is.u; v = is.v; ascending = is.ascending; turns = short.1; least = is.least };
              shortest = λ other that.
                  let at_most = found.2.least (length that.turns.rest) (other_leads e has.0 other is that) in
                  let few = short.2 in
                  let long = least.1 in
                  let whole = ap length that.turns.begins in
                  omega arith;
            },
          )
      | inr none ↦ absurd (none (length is.turns.rest) (omega arith) (is.turns.rest, refl, is.turns.leads))
    ]
