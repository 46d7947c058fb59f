-- The orders of a permutation model: the vertices are put at their places, and two such orders realise the graph.
use Rattle.std.proofs.Common.{◌≡◌, ◌≢◌, ◌⊎◌, ℕ, ◌+◌, ◌<◌, Bool, true, false, ◌||◌, List, [], ◌∷◌, length, slice_get, set, Some, refl, sym, ◌∙◌, ap, subst, inl, inr, arith}
use Rattle.std.proofs.lemmas.Bool.{true≢false, false_from_ne_true, or_cases, or_left, or_right}
use Rattle.std.proofs.lemmas.List.{length-set, get_or-set_same, get_or-set_other}
use Rattle.std.proofs.lemmas.Option.{slice_get-get_or, get_or_from_slice_get, slice_get_within}
use Rattle.std.specs.FinSet.{contains, len, retain, union}
use Rattle.md_graph.specs.declared.TheConstants.{NAMES}
use Rattle.md_graph.specs.Sets.{NameSet, Has}
use Rattle.md_graph.specs.NameSet.{ascending}
use Rattle.md_graph.specs.Rows.{row_of}
use Rattle.md_graph.specs.PlainGraph.{PlainGraph, IsGraph, adjacent}
use Rattle.md_graph.proofs.SetLemmas.{same_name, retain_has, of_retain, union_left, union_right, of_union, same_members}
use Rattle.md_forcing.specs.declared.arc_set.Side.{Side}
use Rattle.md_forcing.specs.declared.arc_set.Side.TheVariants.{Edges, NonEdges}
use Rattle.md_forcing.specs.Lists.{Holds}
use Rattle.md_forcing.specs.Forcing.{arc}
use Rattle.md_forcing.specs.Sides.{adjacent_on}
use Rattle.md_forcing.proofs.NameLists.{of_ascending, in_ascending}
use Rattle.md_comparability.specs.Chains.{HasForcingChain}
use Rattle.md_comparability.specs.Orientations.{IsTransitiveOrientation}
use Rattle.md_comparability.specs.Orders.{Realise, IsLinear, place_in}
use Rattle.md_comparability.specs.Walking.{IsWholeOrientation}
use Rattle.md_comparability.proofs.Reached.{side_premises, sides_proof}
use Rattle.md_comparability.proofs.Chosen.{least_edge_proof}
use Rattle.md_comparability.proofs.Alternative.{chain_has_no_orientation}
use Rattle.md_comparability.proofs.OrderLaws.{one_side, merged_linear, back_linear, realised}
use Rattle.md_comparability.proofs.Placed.{len_disjoint, place_within, one_at_place, placed_order}
use Rattle.md_orient.specs.Models.{AreSides, ArePlaced, has_arc, comes_before}

-- ---- the place of a vertex, counted

merged_count : (s a b : NameSet) (f g : ℕ → Bool) → ((u : ℕ) → contains a u ≡ f u) → ((u : ℕ) → contains b u ≡ g u) → ((u : ℕ) → f u ≡ true → Has s u) → ((u : ℕ) → g u ≡ true → Has s u) → ((u : ℕ) → f u ≡ true → g u ≡ true → ⊥) → len a + len b ≡ len (retain s (λ u. f u || g u))
merged_count s a b f g is_a is_b in_f in_g apart =
    let p : ℕ → Bool = λ u. f u || g u in
    sym (len_disjoint a b (λ u h. false_from_ne_true _ (λ k. apart u (sym (is_a u) ∙ h) (sym (is_b u) ∙ k))))
    ∙ ap len (same_members (union a b) (retain s p)
    (λ u h. elim (of_union a b u h) [
      | inl i ↦ let t = sym (is_a u) ∙ i in retain_has s p u (in_f u t) (or_left _ _ t)
      | inr i ↦ let t = sym (is_b u) ∙ i in retain_has s p u (in_g u t) (or_right _ _ t)
    ])
    (λ u h. elim (or_cases (f u) (g u) (of_retain s p u h).1) [
      | inl t ↦ union_left a b u (is_a u ∙ t)
      | inr t ↦ union_right a b u (is_b u ∙ t)
    ]))

module _ (edges others : List NameSet) where
  pub counted : (turned : Bool) (v : ℕ) (first second : NameSet) (n m : ℕ) → turned ≡ false → n ≡ len first → m ≡ len second → ((u : ℕ) → contains first u ≡ contains (row_of edges u) v) → ((u : ℕ) → contains second u ≡ contains (row_of others u) v) → (s : NameSet) → AreSides s edges others → n + m ≡ place_in (comes_before edges others turned) s v
  counted true v first second n m is is_n is_m is_first is_second s sides = absurd (true≢false is)
  counted false v first second n m is is_n is_m is_first is_second s sides =
      (λ i. is_n i + is_m i)
      ∙ merged_count s first second (λ u. has_arc edges u v) (λ u. has_arc others u v) is_first is_second (λ u h. sides.tails (arc u v) h) (λ u h. sides.other_tails (arc u v) h) (λ u h k. sides.apart u v h (inl k))

  pub counted_turned : (turned : Bool) (v : ℕ) (first second : NameSet) (n m : ℕ) → turned ≡ true → n ≡ len first → m ≡ len second → first ≡ row_of edges v → ((u : ℕ) → contains second u ≡ contains (row_of others u) v) → (s : NameSet) → AreSides s edges others → n + m ≡ place_in (comes_before edges others turned) s v
  counted_turned false v first second n m is is_n is_m is_first is_second s sides = absurd (true≢false (sym is))
  counted_turned true v first second n m is is_n is_m is_first is_second s sides =
      (λ i. is_n i + is_m i)
      ∙ merged_count s first second (λ u. has_arc edges v u) (λ u. has_arc others u v) (λ u. ap (λ t. contains t u) is_first) is_second (λ u h. sides.heads (arc v u) h) (λ u h. sides.other_tails (arc u v) h) (λ u h k. sides.apart v u h (inr k))

-- ---- the vertices are put at their places

-- the list has each member of s at its place, but for those that are left
pub record IsPlacing (r : ℕ → ℕ → Bool) (s : NameSet) (list left : List ℕ) : Type 0 where
  pub size : length list ≡ len s
  pub within : (v : ℕ) → Holds left v → Has s v
  pub passed : (v : ℕ) → Has s v → Holds left v ⊎ (slice_get list (place_in r s v) ≡ Some v)

pub placing_start : (r : ℕ → ℕ → Bool) (s : NameSet) (list left : List ℕ) → ((v : ℕ) → Has s v → v < NAMES) → length list ≡ len s → left ≡ ascending s → IsPlacing r s list left
placing_start r s list left names size is = record {
  size = size;
  within = λ v h. (of_ascending s NAMES v (subst (λ l. Holds l v) is h)).0;
  passed = λ v h. inl (subst (λ l. Holds l v) (sym is) (in_ascending s NAMES v h (names v h)));
}

pub next_vertex : (r : ℕ → ℕ → Bool) (s : NameSet) (list left rest : List ℕ) (x : ℕ) → IsPlacing r s list left → left ≡ x ∷ rest → Has s x
next_vertex r s list left rest x before is = before.within x (subst (λ l. Holds l x) (sym is) (inl refl))

written : (xs : List ℕ) (i x : ℕ) → i < length xs → slice_get (set xs i x) i ≡ Some x
written xs i x below =
    let size = length-set xs i x in
    slice_get-get_or (set xs i x) i x (omega arith) ∙ ap Some (get_or-set_same xs i x x below)

unwritten : (xs : List ℕ) (i j x y : ℕ) → j ≢ i → slice_get xs j ≡ Some y → slice_get (set xs i x) j ≡ Some y
unwritten xs i j x y other e =
    let size = length-set xs i x in
    let below = slice_get_within xs j y e in
    slice_get-get_or (set xs i x) j y (omega arith) ∙ ap Some (get_or-set_other xs i j x y other ∙ get_or_from_slice_get xs j y y e)

module _ (r : ℕ → ℕ → Bool) (s : NameSet) (linear : IsLinear r s) where
  pub place_below : (list left rest : List ℕ) (x place : ℕ) → IsPlacing r s list left → left ≡ x ∷ rest → place ≡ place_in r s x → place < length list
  place_below list left rest x place before is at_x =
      let below = place_within r s linear x (next_vertex r s list left rest x before is) in
      let size = before.size in
      omega arith

  pub placing_more : (list new left rest : List ℕ) (x place : ℕ) → IsPlacing r s list left → left ≡ x ∷ rest → place ≡ place_in r s x → new ≡ set list place x → IsPlacing r s new rest
  placing_more list new left rest x place before is at_x made =
      let in_x = next_vertex r s list left rest x before is in
      let below = place_below list left rest x place before is at_x in
      let here : slice_get new (place_in r s x) ≡ Some x = subst (λ l. slice_get l (place_in r s x) ≡ Some x) (sym made) (subst (λ k. slice_get (set list place x) k ≡ Some x) at_x (written list place x below)) in
      record {
        size = ap length made ∙ length-set list place x ∙ before.size;
        within = λ v h. before.within v (subst (λ l. Holds l v) (sym is) (inr h));
        passed = λ v in_v. elim (before.passed v in_v) [
          | inl h ↦ elim (subst (λ l. Holds l v) is h) [
            | inl same ↦ inr (subst (λ k. slice_get new (place_in r s k) ≡ Some k) (sym same) here)
            | inr behind ↦ inl behind
          ]
          | inr there ↦ elim (same_name v x) [
            | inl same ↦ inr (subst (λ k. slice_get new (place_in r s k) ≡ Some k) (sym same) here)
            | inr differ ↦
                let other : place_in r s v ≢ place = λ e. differ (one_at_place r s linear v x in_v in_x (e ∙ at_x)) in
                inr (subst (λ l. slice_get l (place_in r s v) ≡ Some v) (sym made) (unwritten list place (place_in r s v) x v other there))
          ]
        ];
      }

pub placing_end : (r : ℕ → ℕ → Bool) (s : NameSet) (list left : List ℕ) → IsPlacing r s list left → left ≡ [] → ArePlaced r s list
placing_end r s list left before is = record {
  size = before.size;
  each = λ v in_v. elim (before.passed v in_v) [
    | inl h ↦ absurd (subst (λ l. Holds l v) is h)
    | inr there ↦ there
  ];
}

-- ---- the two orders

module _ {g : PlainGraph} (is : IsGraph g) where
  whole_orients : (side : Side) (chosen : List NameSet) → IsWholeOrientation (adjacent_on side g) chosen → IsTransitiveOrientation (adjacent_on side g) (has_arc chosen)
  whole_orients side chosen whole =
      let premises = side_premises is side in
      (least_edge_proof (adjacent_on side g) premises.adjacency NAMES premises.below).transitive (has_arc chosen) (λ u v. whole.all (arc u v)) whole.free

  pub whole_has_no_chain : (chosen : List NameSet) → IsWholeOrientation (adjacent g) chosen → HasForcingChain (adjacent g) → ⊥
  whole_has_no_chain chosen whole chain =
      let premises = side_premises is Edges in
      chain_has_no_orientation (adjacent g) premises.adjacency NAMES premises.below chain (has_arc chosen, whole_orients Edges chosen whole)

  module _ (edges others : List NameSet) (whole : IsWholeOrientation (adjacent g) edges) (other_whole : IsWholeOrientation (adjacent_on NonEdges g) others) where
    pub two_sides : ((v : ℕ) → Has g.vertices v → v < length edges) → ((v : ℕ) → Has g.vertices v → v < length others) → AreSides g.vertices edges others
    two_sides room other_room =
        let sides = (sides_proof g is).complement in
        let o = whole_orients Edges edges whole in
        let o_other = whole_orients NonEdges others other_whole in
        let other_symmetric = (side_premises is NonEdges).adjacency.symmetric in
        record {
          room = room;
          other_room = other_room;
          tails = λ a h. (sides.ends a.tail a.head (o.arcs a.tail a.head h)).0;
          heads = λ a h. (sides.ends a.tail a.head (o.arcs a.tail a.head h)).1;
          other_tails = λ a h. (sides.other_ends a.tail a.head (o_other.arcs a.tail a.head h)).0;
          apart = λ u v h k. one_side (adjacent g) (adjacent_on NonEdges g) g.vertices (side_premises is Edges).adjacency (side_premises is NonEdges).adjacency sides u v (o.arcs u v h) (elim k [
            | inl t ↦ o_other.arcs u v t
            | inr t ↦ other_symmetric u v ∙ o_other.arcs v u t
          ]);
        }

    pub first_linear : IsLinear (comes_before edges others false) g.vertices
    first_linear =
        merged_linear (adjacent g) (adjacent_on NonEdges g) g.vertices (side_premises is Edges).adjacency (side_premises is NonEdges).adjacency (sides_proof g is).complement (has_arc edges) (has_arc others) (whole_orients Edges edges whole) (whole_orients NonEdges others other_whole)

    pub second_linear : IsLinear (comes_before edges others true) g.vertices
    second_linear =
        back_linear (adjacent g) (adjacent_on NonEdges g) g.vertices (side_premises is Edges).adjacency (side_premises is NonEdges).adjacency (sides_proof g is).complement (has_arc edges) (has_arc others) (whole_orients Edges edges whole) (whole_orients NonEdges others other_whole)

    pub placed_realise : (p q : List ℕ) → ArePlaced (comes_before edges others false) g.vertices p → ArePlaced (comes_before edges others true) g.vertices q → Realise (adjacent g) g.vertices p q
    placed_realise p q at_p at_q =
        let first = placed_order (comes_before edges others false) g.vertices first_linear p at_p.size at_p.each in
        let second = placed_order (comes_before edges others true) g.vertices second_linear q at_q.size at_q.each in
        realised (adjacent g) (adjacent_on NonEdges g) g.vertices (side_premises is Edges).adjacency (side_premises is NonEdges).adjacency (sides_proof g is).complement (has_arc edges) (has_arc others) (whole_orients Edges edges whole) (whole_orients NonEdges others other_whole) p q first.0 first.1 second.0 second.1
