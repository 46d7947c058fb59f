-- Orientations of both sides of a graph give two orders that realise it, and two such orders give orientations.
use Rattle.std.proofs.Common.{◌≡◌, ◌≢◌, ◌⊎◌, ◌↔◌, ℕ, Bool, true, false, ◌||◌, List, sym, ◌∙◌, subst, inl, inr}
use Rattle.std.proofs.lemmas.Bool.{cases_Bool, or_cases, or_left, or_right, false_from_ne_true}
use Rattle.md_graph.specs.Sets.{NameSet, Has}
use Rattle.md_graph.proofs.SetLemmas.{clash}
use Rattle.md_graph.proofs.Search.{Decided, decide_test, decide_both, test_of, test_holds, of_test}
use Rattle.md_graph.specs.Adjacency.{IsAdjacency}
use Rattle.md_comparability.specs.Chains.{HasForcingChain}
use Rattle.md_comparability.specs.Orientations.{IsTransitiveOrientation, HasTransitiveOrientation}
use Rattle.md_comparability.specs.Orders.{IsOrder, Before, Realise, IsLinear}
use Rattle.md_comparability.specs.Laws.{OrientationsGiveOrders, OrdersIfNoChain, IsComplementOn, IsBelow}
use Rattle.md_comparability.proofs.Sorted.{before_one_way, before_on, before_one, decide_before, IsSortedBy, sorted_before, before_sorted, sorted_order}
use Rattle.md_comparability.proofs.Alternative.{chain_or_free, chain_has_no_orientation, free_orientation}

-- an orientation and one of the complement, merged
abbrev pub merged : (ℕ → ℕ → Bool) → (ℕ → ℕ → Bool) → ℕ → ℕ → Bool
merged f g u v = f u v || g u v

module _ (e other : ℕ → ℕ → Bool) (s : NameSet) (is : IsAdjacency e) (is_other : IsAdjacency other) (sides : IsComplementOn s e other) where
  -- no edge of one side is one of the other
  pub one_side : (u v : ℕ) → e u v ≡ true → other u v ≡ true → ⊥
  one_side u v h k =
      let ends = sides.ends u v h in
      let apart : u ≢ v = λ same. clash h (subst (λ x. e u x ≡ false) same (is.irreflexive u)) in
      clash h ((sides.apart u v ends.0 ends.1 apart).0 k)

  module _ (f g : ℕ → ℕ → Bool) (o : IsTransitiveOrientation e f) (o_other : IsTransitiveOrientation other g) where
    apart_back : (u v : ℕ) → f u v ≡ true → g v u ≡ true → ⊥
    apart_back u v h k = one_side u v (o.arcs u v h) (is_other.symmetric u v ∙ o_other.arcs v u k)

    merged_one_way : (u v : ℕ) → merged f g u v ≡ true → merged f g v u ≡ true → ⊥
    merged_one_way u v h k =
        elim (or_cases (f u v) (g u v) h) [
          | inl a ↦ elim (or_cases (f v u) (g v u) k) [ inl b ↦ o.not_both u v a b | inr b ↦ apart_back u v a b ]
          | inr a ↦ elim (or_cases (f v u) (g v u) k) [ inl b ↦ apart_back v u b a | inr b ↦ o_other.not_both u v a b ]
        ]

    merged_one : (u v : ℕ) → Has s u → Has s v → u ≢ v → (merged f g u v ≡ true) ⊎ (merged f g v u ≡ true)
    merged_one u v in_u in_v apart =
        elim (cases_Bool (e u v)) [
          | inl t ↦ elim (o.one u v t) [ inl a ↦ inl (or_left _ _ a) | inr a ↦ inr (or_left _ _ a) ]
          | inr n ↦ elim (o_other.one u v ((sides.apart u v in_u in_v apart).1 n)) [ inl a ↦ inl (or_right _ _ a) | inr a ↦ inr (or_right _ _ a) ]
        ]

    -- an arc of each, one behind the other
    mixed : (u v w : ℕ) → Has s u → Has s w → f u v ≡ true → g v w ≡ true → merged f g u w ≡ true
    mixed u v w in_u in_w a b =
        let apart : u ≢ w = λ same. apart_back u v a (subst (λ k. g v k ≡ true) (sym same) b) in
        elim (merged_one u w in_u in_w apart) [
          | inl on ↦ on
          | inr back ↦ elim (or_cases (f w u) (g w u) back) [
            | inl c ↦ absurd (apart_back w v (o.transitive w u v c a) b)
            | inr c ↦ absurd (apart_back u v a (o_other.transitive v w u b c))
          ]
        ]

    mixed_too : (u v w : ℕ) → Has s u → Has s w → g u v ≡ true → f v w ≡ true → merged f g u w ≡ true
    mixed_too u v w in_u in_w a b =
        let apart : u ≢ w = λ same. apart_back v u (subst (λ k. f v k ≡ true) (sym same) b) a in
        elim (merged_one u w in_u in_w apart) [
          | inl on ↦ on
          | inr back ↦ elim (or_cases (f w u) (g w u) back) [
            | inl c ↦ absurd (apart_back v u (o.transitive v w u b c) a)
            | inr c ↦ absurd (apart_back v w b (o_other.transitive w u v c a))
          ]
        ]

    pub merged_linear : IsLinear (merged f g) s
    merged_linear = record {
      one = merged_one;
      one_way = merged_one_way;
      transitive = λ u v w in_u in_v in_w h k. elim (or_cases (f u v) (g u v) h) [
        | inl a ↦ elim (or_cases (f v w) (g v w) k) [
          | inl b ↦ or_left _ _ (o.transitive u v w a b)
          | inr b ↦ mixed u v w in_u in_w a b
        ]
        | inr a ↦ elim (or_cases (f v w) (g v w) k) [
          | inl b ↦ mixed_too u v w in_u in_w a b
          | inr b ↦ or_right _ _ (o_other.transitive u v w a b)
        ]
      ];
    }

  turned_orientation : (f : ℕ → ℕ → Bool) → IsTransitiveOrientation e f → IsTransitiveOrientation e (λ u v. f v u)
  turned_orientation f o = record {
    arcs = λ u v h. is.symmetric u v ∙ o.arcs v u h;
    one = λ u v h. elim (o.one u v h) [ inl a ↦ inr a | inr a ↦ inl a ];
    not_both = λ u v h k. o.not_both v u h k;
    transitive = λ u v w h k. o.transitive w v u k h;
  }

  module _ (f g : ℕ → ℕ → Bool) (o : IsTransitiveOrientation e f) (o_other : IsTransitiveOrientation other g) where
    abbrev back_f : ℕ → ℕ → Bool
    back_f u v = f v u

    pub back_linear : IsLinear (merged back_f g) s
    back_linear = merged_linear back_f g (turned_orientation f o) o_other

    pub realised : (p q : List ℕ) → IsOrder s p → IsSortedBy (merged f g) p → IsOrder s q → IsSortedBy (merged back_f g) q → Realise e s p q
    realised p q is_p sorted_p is_q sorted_q =
        let linear = merged_linear f g o o_other in
        let in_p : (u v : ℕ) → Has s u → Has s v → merged f g u v ≡ true → Before p u v = λ u v in_u in_v t. before_sorted (merged f g) linear.one_way p u v sorted_p ((is_p.members u).1 in_u) ((is_p.members v).1 in_v) t in
        let in_q : (u v : ℕ) → Has s u → Has s v → merged back_f g u v ≡ true → Before q u v = λ u v in_u in_v t. before_sorted (merged back_f g) back_linear.one_way q u v sorted_q ((is_q.members u).1 in_u) ((is_q.members v).1 in_v) t in
        let of_p : (u v : ℕ) → Before p u v → (f u v ≡ true) ⊎ (g u v ≡ true) = λ u v b. or_cases (f u v) (g u v) (sorted_before (merged f g) p u v sorted_p b) in
        let of_q : (u v : ℕ) → Before q u v → (f v u ≡ true) ⊎ (g u v ≡ true) = λ u v b. or_cases (f v u) (g u v) (sorted_before (merged back_f g) q u v sorted_q b) in
        let told : (u v : ℕ) → Before p u v → Before q v u → e u v ≡ true = λ u v b c. elim (of_p u v b) [
          | inl a ↦ o.arcs u v a
          | inr a ↦ elim (of_q v u c) [ inl d ↦ o.arcs u v d | inr d ↦ absurd (o_other.not_both u v a d) ]
        ] in
        record {
          first = is_p;
          second = is_q;
          edges = λ u v in_u in_v apart. (
            λ h. elim (o.one u v h) [
              | inl a ↦ inl (in_p u v in_u in_v (or_left _ _ a), in_q v u in_v in_u (or_left _ _ a))
              | inr a ↦ inr (in_p v u in_v in_u (or_left _ _ a), in_q u v in_u in_v (or_left _ _ a))
            ],
            λ d. elim d [ inl w ↦ told u v w.0 w.1 | inr w ↦ is.symmetric u v ∙ told v u w.0 w.1 ],
          );
        }

    pub orders : (p : List ℕ) × (q : List ℕ) × Realise e s p q
    orders =
        let p = sorted_order (merged f g) s (merged_linear f g o o_other) in
        let q = sorted_order (merged back_f g) s back_linear in
        (p.0, q.0, realised p.0 q.0 p.1 p.2 q.1 q.2)

pub orders_proof : OrientationsGiveOrders
orders_proof e other f g s is is_other sides o o_other = orders e other s is is_other sides f g o o_other

-- ---- and back

-- Of a side d of a graph and an order p: where, of names in this order, those of the side are told by a transitive Q, the arcs
-- of the side in this order are a transitive orientation.
module _ (d : ℕ → ℕ → Bool) (s : NameSet) (is : IsAdjacency d) (ends : (u v : ℕ) → d u v ≡ true → Has s u × Has s v) (p : List ℕ) (order : IsOrder s p)
    (Q : ℕ → ℕ → Type 0) (on : (u v w : ℕ) → Q u v → Q v w → Q u w)
    (tells : (u v : ℕ) → Has s u → Has s v → u ≢ v → Before p u v → (d u v ≡ true) ↔ Q u v) where
  decide_up : (u v : ℕ) → Decided ((d u v ≡ true) × Before p u v)
  decide_up u v = decide_both (decide_test (d u v) true) (decide_before p u v)

  up : ℕ → ℕ → Bool
  up u v = test_of (decide_up u v)

  in_up : (u v : ℕ) → d u v ≡ true → Before p u v → up u v ≡ true
  unfolding up
  in_up u v h b = test_holds (decide_up u v) (h, b)

  of_up : (u v : ℕ) → up u v ≡ true → (d u v ≡ true) × Before p u v
  unfolding up
  of_up u v h = of_test (decide_up u v) h

  differ : (u v : ℕ) → d u v ≡ true → u ≢ v
  differ u v h same = clash h (subst (λ x. d u x ≡ false) same (is.irreflexive u))

  before_differ : (u v : ℕ) → Before p u v → u ≢ v
  before_differ u v b same =
      let b_self : Before p u u = subst (Before p u) (sym same) b in before_one_way p u u order.once b_self b_self

  told_up : (u v : ℕ) → (d u v ≡ true) × Before p u v → Q u v
  told_up u v w = let in_s = ends u v w.0 in (tells u v in_s.0 in_s.1 (differ u v w.0) w.1).0 w.0

  pub up_orients : HasTransitiveOrientation d
  up_orients = (
    up,
    record {
      arcs = λ u v h. (of_up u v h).0;
      one = λ u v h.
          let in_s = ends u v h in
          elim (before_one p u v ((order.members u).1 in_s.0) ((order.members v).1 in_s.1) (differ u v h)) [
            | inl b ↦ inl (in_up u v h b)
            | inr b ↦ inr (in_up v u (is.symmetric v u ∙ h) b)
          ];
      not_both = λ u v h k. before_one_way p u v order.once (of_up u v h).1 (of_up v u k).1;
      transitive = λ u v w h k.
          let a = of_up u v h in
          let b = of_up v w k in
          let before = before_on p u v w order.once a.1 b.1 in
          let there = (tells u w (ends u v a.0).0 (ends v w b.0).1 (before_differ u w before) before).1 (on u v w (told_up u v a) (told_up v w b)) in
          in_up u w there before;
    },
  )

module _ (e other : ℕ → ℕ → Bool) (s : NameSet) (is : IsAdjacency e) (is_other : IsAdjacency other) (sides : IsComplementOn s e other) (p q : List ℕ) (r : Realise e s p q) where
  edge_told : (u v : ℕ) → Has s u → Has s v → u ≢ v → Before p u v → (e u v ≡ true) ↔ Before q v u
  edge_told u v in_u in_v apart b = (
    λ h. elim ((r.edges u v in_u in_v apart).0 h) [
      | inl w ↦ w.1
      | inr w ↦ absurd (before_one_way p u v r.first.once b w.0)
    ],
    λ c. (r.edges u v in_u in_v apart).1 (inl (b, c)),
  )

  other_told : (u v : ℕ) → Has s u → Has s v → u ≢ v → Before p u v → (other u v ≡ true) ↔ Before q u v
  other_told u v in_u in_v apart b = (
    λ h. elim (before_one q u v ((r.second.members u).1 in_u) ((r.second.members v).1 in_v) apart) [
      | inl c ↦ c
      | inr c ↦ clash ((edge_told u v in_u in_v apart b).1 c) ((sides.apart u v in_u in_v apart).0 h)
    ],
    λ c. (sides.apart u v in_u in_v apart).1 (false_from_ne_true _ (λ h. before_one_way q u v r.second.once c ((edge_told u v in_u in_v apart b).0 h))),
  )

  pub orders_orient : HasTransitiveOrientation e
  orders_orient = up_orients e s is sides.ends p r.first (λ u v. Before q v u) (λ u v w a b. before_on q w v u r.second.once b a) edge_told

  pub orders_orient_other : HasTransitiveOrientation other
  orders_orient_other = up_orients other s is_other sides.other_ends p r.first (Before q) (λ u v w a b. before_on q u v w r.second.once a b) other_told

orientation_of : (e : ℕ → ℕ → Bool) → IsAdjacency e → (n : ℕ) → IsBelow e n → (HasForcingChain e → ⊥) → HasTransitiveOrientation e
orientation_of e is n below none =
    elim (chain_or_free e is n below) [ inl c ↦ absurd (none c) | inr free ↦ free_orientation e is n below free ]

pub no_chain_proof : OrdersIfNoChain
no_chain_proof e other s is is_other sides n below below_other = (
  λ w. (
    λ c. chain_has_no_orientation e is n below c (orders_orient e other s is is_other sides w.0 w.1 w.2),
    λ c. chain_has_no_orientation other is_other n below_other c (orders_orient_other e other s is is_other sides w.0 w.1 w.2),
  ),
  λ none.
      let o = orientation_of e is n below none.0 in
      let o_other = orientation_of other is_other n below_other none.1 in
      orders e other s is is_other sides o.0 o_other.0 o.1 o_other.1,
)
