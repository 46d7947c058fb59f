-- The arcs that the least edges choose.
use Rattle.std.proofs.Common.{◌≡◌, ◌≢◌, ◌⊎◌, ℕ, ◌<◌, Bool, true, false, refl, sym, ◌∙◌, subst, inl, inr, arith}
use Rattle.std.proofs.lemmas.Bool.{cases_Bool, cases_lt}
use Rattle.md_graph.proofs.SetLemmas.{clash}
use Rattle.md_graph.proofs.Search.{Decided, test_of, test_holds, of_test}
use Rattle.md_graph.specs.Adjacency.{IsAdjacency}
use Rattle.md_forcing.specs.declared.arc.Arc.{Arc}
use Rattle.md_forcing.specs.Forcing.{arc, reverse, IsArc, Reaches}
use Rattle.md_forcing.proofs.Reaching.{reaches_itself, reaches_step, reaches_on, reached_arc}
use Rattle.md_comparability.specs.Chains.{Precedes}
use Rattle.md_comparability.specs.Orientations.{IsTransitiveOrientation, ReachesEdge, IsLeastEdge, IsChosen}
use Rattle.md_comparability.specs.Laws.{LeastEdgeIsTransitive, IsBelow, IsTestOfChosen}
use Rattle.md_comparability.proofs.Reached.{reaches_back, reaches_turned}
use Rattle.md_comparability.proofs.Triangles.{moved}
use Rattle.md_comparability.proofs.Deciding.{decide_either, decide_is_arc, decide_reaches}
use Rattle.md_comparability.proofs.Least.{least_pair, precedes_on, precedes_one_way, decide_precedes, precedes_or_same}

-- no edge w p, w < p, is st or greater where st is not less than pq
below_first : (w p s t q : ℕ) → w < p → (Precedes w p s t → ⊥) → (Precedes s t p q → ⊥) → ⊥
below_first w p s t q up first second =
    elim (cases_lt w s) [
      | inl l ↦ first (inl l)
      | inr at_most ↦ second (inl (omega arith))
    ]

same_first : (p w s t q : ℕ) → (Precedes p w s t → ⊥) → (Precedes s t p q → ⊥) → s ≡ p
same_first p w s t q first second =
    elim (cases_lt p s) [
      | inl l ↦ absurd (first (inl l))
      | inr at_most ↦ elim (cases_lt s p) [ inl l ↦ absurd (second (inl l)) | inr above ↦ omega arith ]
    ]

module _ (e : ℕ → ℕ → Bool) (is : IsAdjacency e) where
  -- the ends of an arc are apart
  pub ends_apart : (u v : ℕ) → e u v ≡ true → (u < v) ⊎ (v < u)
  ends_apart u v h =
      elim (cases_lt u v) [
        | inl l ↦ inl l
        | inr above ↦ elim (cases_lt v u) [
          | inl l ↦ inr l
          | inr at_most ↦
              let same : u ≡ v = omega arith in
              absurd (clash h (subst (λ x. e u x ≡ false) same (is.irreflexive u)))
        ]
      ]

  edge_along : (a b : Arc) → Reaches e a b → (x y : ℕ) → ReachesEdge e b x y → ReachesEdge e a x y
  edge_along a b r x y (inl s) = inl (reaches_on e a b (arc x y) r s)
  edge_along a b r x y (inr s) = inr (reaches_on e a b (arc y x) r s)

  edge_turned : (a : Arc) (x y : ℕ) → ReachesEdge e a x y → ReachesEdge e (reverse a) x y
  edge_turned a x y (inl s) = inr (reaches_turned e is a (arc x y) s)
  edge_turned a x y (inr s) = inl (reaches_turned e is a (arc y x) s)

  -- arcs of one class have one least edge, and so have their reverses
  pub least_along : (a b : Arc) → Reaches e a b → (u v : ℕ) → IsLeastEdge e a u v → IsLeastEdge e b u v
  least_along a b r u v l = record {
    ascending = l.ascending;
    reached = edge_along b a (reaches_back e is a b r) u v l.reached;
    least = λ x y up s. l.least x y up (edge_along a b r x y s);
  }

  pub least_turned : (a : Arc) (u v : ℕ) → IsLeastEdge e a u v → IsLeastEdge e (reverse a) u v
  least_turned a u v l = record {
    ascending = l.ascending;
    reached = edge_turned a u v l.reached;
    least = λ x y up s. l.least x y up (edge_turned (reverse a) x y s);
  }

  pub one_least : (a : Arc) (u v x y : ℕ) → IsLeastEdge e a u v → IsLeastEdge e a x y → (u ≡ x) × (v ≡ y)
  one_least a u v x y l m =
      elim (precedes_or_same u v x y) [
        | inl before ↦ absurd (m.least u v l.ascending l.reached before)
        | inr other ↦ elim other [
          | inl before ↦ absurd (l.least x y m.ascending m.reached before)
          | inr same ↦ same
        ]
      ]

  pub chosen_arc : (a : Arc) → IsChosen e a → IsArc e a
  chosen_arc a c = c.3.0

  pub chosen_along : (a b : Arc) → Reaches e a b → IsChosen e a → IsChosen e b
  chosen_along a b r c = (c.0, c.1, least_along a b r c.0 c.1 c.2, reaches_on e b a (arc c.0 c.1) (reaches_back e is a b r) c.3)

  pub chosen_one_way : (a : Arc) → IsChosen e a → IsChosen e (reverse a) → Reaches e a (reverse a)
  chosen_one_way a c d =
      let same = one_least (reverse a) d.0 d.1 c.0 c.1 d.2 (least_turned a c.0 c.1 c.2) in
      let to_same : Reaches e (reverse a) (arc c.0 c.1) = subst (Reaches e (reverse a)) (λ i. arc (same.0 i) (same.1 i)) d.3 in
      reaches_on e a (arc c.0 c.1) (reverse a) c.3 (reaches_back e is (reverse a) (arc c.0 c.1) to_same)

  module _ (n : ℕ) (below : IsBelow e n) where
    decide_edge : (a : Arc) (x y : ℕ) → Decided (ReachesEdge e a x y)
    decide_edge a x y = decide_either (decide_reaches e n below a (arc x y)) (decide_reaches e n below a (arc y x))

    edge_below : (a : Arc) (x y : ℕ) → ReachesEdge e a x y → (x < n) × (y < n)
    edge_below a x y (inl r) = below x y (reached_arc e a (arc x y) r)
    edge_below a x y (inr r) = let ends = below y x (reached_arc e a (arc y x) r) in (ends.1, ends.0)

    own_edge : (a : Arc) → IsArc e a → (x : ℕ) × (y : ℕ) × (x < y) × ReachesEdge e a x y
    own_edge a h =
        elim (ends_apart a.tail a.head h) [
          | inl up ↦ (a.tail, a.head, up, inl (reaches_itself e a h))
          | inr down ↦ (a.head, a.tail, down, inr (reaches_itself e a h))
        ]

    pub least_edge : (a : Arc) → IsArc e a → (u : ℕ) × (v : ℕ) × IsLeastEdge e a u v
    least_edge a h =
        elim (least_pair (ReachesEdge e a) (decide_edge a) n (edge_below a)) [
          | inl found ↦ (found.0, found.1, record { ascending = found.2.ascending; reached = found.2.has; least = found.2.least })
          | inr none ↦ let own = own_edge a h in absurd (none own.0 own.1 own.2 own.3)
        ]

    pub chosen_or_reverse : (a : Arc) → IsArc e a → IsChosen e a ⊎ IsChosen e (reverse a)
    chosen_or_reverse a h =
        let l = least_edge a h in
        elim l.2.reached as (λ _. IsChosen e a ⊎ IsChosen e (reverse a)) [
          | inl r ↦ inl (l.0, l.1, l.2, r)
          | inr r ↦ inr (l.0, l.1, least_turned a l.0 l.1 l.2, reaches_turned e is a (arc l.1 l.0) r)
        ]

    pub decide_chosen : (a : Arc) → Decided (IsChosen e a)
    decide_chosen a =
        elim (decide_is_arc e a) [
          | inr not_arc ↦ inr (λ c. not_arc (chosen_arc a c))
          | inl h ↦
              let l = least_edge a h in
              elim (decide_reaches e n below a (arc l.0 l.1)) [
                | inl r ↦ inl (l.0, l.1, l.2, r)
                | inr missing ↦ inr (λ c.
                    let same = one_least a c.0 c.1 l.0 l.1 c.2 l.2 in
                    missing (subst (Reaches e a) (λ i. arc (same.0 i) (same.1 i)) c.3))
              ]
        ]

    pub chosen_test : (f : ℕ → ℕ → Bool) × IsTestOfChosen e f
    chosen_test = (λ u v. test_of (decide_chosen (arc u v)), λ u v. (of_test (decide_chosen (arc u v)), test_holds (decide_chosen (arc u v))))

    module _ (free : (a : Arc) → ¬ Reaches e a (reverse a)) where
      not_both : (a : Arc) → IsChosen e a → IsChosen e (reverse a) → ⊥
      not_both a c d = free a (chosen_one_way a c d)

      -- a cycle in which the least edge of w>u is not less than that of u>v
      cycle_at : (u v w : ℕ) → (c : IsChosen e (arc u v)) → IsChosen e (arc v w) → (d : IsChosen e (arc w u)) → (Precedes d.0 d.1 c.0 c.1 → ⊥) → ⊥
      cycle_at u v w c b d not_less =
          let p = c.0 in
          let q = c.1 in
          let s = d.0 in
          let t = d.1 in
          let m = moved e is w u v (chosen_arc (arc w u) d) (is.symmetric w v ∙ chosen_arc (arc v w) b)
          (λ r. not_both (arc v w) b (chosen_along (arc u v) (arc w v) r c))
          (λ r. not_both (arc w u) d (chosen_along (arc u v) (arc u w) r c))
          p q c.3 in
          let pq : IsChosen e (arc p q) = chosen_along (arc u v) (arc p q) c.3 c in
          let qw : IsChosen e (arc q w) = chosen_along (arc v w) (arc q w) (reaches_turned e is (arc w v) (arc w q) m.right) b in
          let wp : IsChosen e (arc w p) = chosen_along (arc w u) (arc w p) m.left d in
          let wp_arc : e w p ≡ true = m.first in
          let least : IsLeastEdge e (arc w p) s t = least_along (arc w u) (arc w p) m.left s t d.2 in
          let to_st : Reaches e (arc w p) (arc s t) = reaches_on e (arc w p) (arc w u) (arc s t) (reaches_back e is (arc w u) (arc w p) m.left) d.3 in
          let up : p < w = elim (ends_apart w p wp_arc) [
            | inr l ↦ l
            | inl l ↦ absurd (below_first w p s t q l (least.least w p l (inl (reaches_itself e (arc w p) wp_arc))) not_less)
          ] in
          let same : s ≡ p = same_first p w s t q (least.least p w up (inr (reaches_itself e (arc w p) wp_arc))) not_less in
          let to_pt : Reaches e (arc w p) (arc p t) = subst (λ k. Reaches e (arc w p) (arc k t)) same to_st in
          let second = moved e is q w p (chosen_arc (arc q w) qw) (is.symmetric q p ∙ chosen_arc (arc p q) pq)
          (λ r. not_both (arc p q) pq (chosen_along (arc w p) (arc q p) r wp))
          (λ r. not_both (arc q w) qw (chosen_along (arc w p) (arc w q) r wp))
          p t to_pt in
          not_both (arc p q) pq (chosen_along (arc q w) (arc q p) second.left qw)

      pub no_cycle : (u v w : ℕ) → IsChosen e (arc u v) → IsChosen e (arc v w) → IsChosen e (arc w u) → ⊥
      no_cycle u v w c b d =
          elim (decide_precedes d.0 d.1 c.0 c.1) [
            | inr first ↦ cycle_at u v w c b d first
            | inl dc ↦ elim (decide_precedes c.0 c.1 b.0 b.1) [
              | inr second ↦ cycle_at v w u b d c second
              | inl cb ↦ elim (decide_precedes b.0 b.1 d.0 d.1) [
                | inr third ↦ cycle_at w u v d c b third
                | inl bd ↦ precedes_one_way d.0 d.1 b.0 b.1 (precedes_on d.0 d.1 c.0 c.1 b.0 b.1 dc cb) bd
              ]
            ]
          ]

      chosen_on : (u v w : ℕ) → IsChosen e (arc u v) → IsChosen e (arc v w) → IsChosen e (arc u w)
      chosen_on u v w c b =
          let apart : u ≢ w = λ same. not_both (arc u v) c (subst (λ x. IsChosen e (arc v x)) (sym same) b) in
          let there : e u w ≡ true = elim (cases_Bool (e u w)) [
            | inl t ↦ t
            | inr none ↦ absurd (not_both (arc v w) b (chosen_along (arc u v) (arc w v) (reaches_step e (arc u v) (arc u v) (arc w v) (reaches_itself e (arc u v) (chosen_arc (arc u v) c)) (is.symmetric w v ∙ chosen_arc (arc v w) b) (inr (refl, apart, none))) c))
          ] in
          elim (chosen_or_reverse (arc u w) there) [
            | inl yes_it ↦ yes_it
            | inr back ↦ absurd (no_cycle u v w c b back)
          ]

      pub chosen_orients : (f : ℕ → ℕ → Bool) → IsTestOfChosen e f → IsTransitiveOrientation e f
      chosen_orients f tells = record {
        arcs = λ u v h. chosen_arc (arc u v) ((tells u v).0 h);
        one = λ u v h. elim (chosen_or_reverse (arc u v) h) [ inl c ↦ inl ((tells u v).1 c) | inr c ↦ inr ((tells v u).1 c) ];
        not_both = λ u v h k. not_both (arc u v) ((tells u v).0 h) ((tells v u).0 k);
        transitive = λ u v w h k. (tells u w).1 (chosen_on u v w ((tells u v).0 h) ((tells v w).0 k));
      }

pub least_edge_proof : LeastEdgeIsTransitive
least_edge_proof e is n below = record {
  test = chosen_test e is n below;
  transitive = λ f tells free. chosen_orients e is n below free f tells;
}
