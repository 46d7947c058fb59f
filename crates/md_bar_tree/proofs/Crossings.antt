-- Two vertices that cross are part of a bar, and each vertex of a cycle, and of two edges, crosses another one.
use Rattle.std.proofs.Common.{◌≡◌, ◌≢◌, ℕ, ◌<◌, Bool, true, false, ◌⊎◌, refl, sym, ◌∙◌, subst, inl, inr}
use Rattle.std.proofs.lemmas.Bool.{cases_order}
use Rattle.std.specs.FinSet.{remove, difference}
use Rattle.md_graph.specs.PlainGraph.{PlainGraph, IsGraph, adjacent, neighbours}
use Rattle.md_graph.specs.Sets.{NameSet, Has}
use Rattle.md_graph.specs.Adjacency.{IsAdjacency}
use Rattle.md_graph.proofs.GraphLemmas.{adjacent_ends, contains-neighbours}
use Rattle.md_graph.proofs.SetLemmas.{of_remove, remove_left, of_minus, minus_has}
use Rattle.md_modules.specs.InducedPaths.{HasPathEdges}
use Rattle.md_modules.proofs.PathSearch.{path_of_edges, turned_edges, ends_differ}
use Rattle.md_modules.proofs.Turns.{graph_adjacency}
use Rattle.md_bar_tree.specs.declared.Class.{Class}
use Rattle.md_bar_tree.specs.declared.Class.TheVariants.{Trivial, Threshold}
use Rattle.md_bar_tree.specs.declared.Bar.{Bar}
use Rattle.md_bar_tree.specs.declared.BarKind.{BarKind}
use Rattle.md_bar_tree.specs.declared.BarKind.TheVariants.{P4, C4, TwoK2}
use Rattle.md_bar_tree.specs.Bars.{AreInside, IsInducedCycle, AreTwoEdges, Bars, IsBarOfKind, IsBar, HasBar}
use Rattle.md_bar_tree.proofs.TwoPairs.{HaveValues, not_both, cycle_of, edges_of}
use Rattle.md_bar_tree.specs.Crossing.{IsOwn, AreCrossing, IsNameOf}

module _ {g : PlainGraph} (is : IsGraph g) (class : Class) where
  adj : IsAdjacency (adjacent g)
  adj = graph_adjacency is

  abbrev Barred : Type 0
  Barred = HasBar class (adjacent g) g.vertices

  -- ---- paths

  path_bar_of : (a b c d : ℕ) → HasPathEdges (adjacent g) a b c d → Barred
  path_bar_of a b c d path = elim (cases_order a d) [
    | inl same ↦ absurd (ends_differ is a b c d path same)
    | inr (inl up) ↦ (record { kind = P4; a = a; b = b; c = c; d = d }, record { bars = tt; is = path_of_edges is a b c d path up })
    | inr (inr down) ↦ (record { kind = P4; a = d; b = c; c = b; d = a }, record { bars = tt; is = path_of_edges is d c b a (turned_edges g a b c d path) down })
  ]

  -- ---- two pairs of one value, in any order

  first_turned : (v : Bool) (p q r s : ℕ) → HaveValues (adjacent g) v p q r s → HaveValues (adjacent g) v q p r s
  first_turned v p q r s h = record { pairs = (adj.symmetric q p ∙ h.pairs.0, h.pairs.1); across = (h.across.2, h.across.3, h.across.0, h.across.1) }

  second_turned : (v : Bool) (p q r s : ℕ) → HaveValues (adjacent g) v p q r s → HaveValues (adjacent g) v p q s r
  second_turned v p q r s h = record { pairs = (h.pairs.0, adj.symmetric s r ∙ h.pairs.1); across = (h.across.1, h.across.0, h.across.3, h.across.2) }

  pairs_turned : (v : Bool) (p q r s : ℕ) → HaveValues (adjacent g) v p q r s → HaveValues (adjacent g) v r s p q
  pairs_turned v p q r s h = record {
    pairs = (h.pairs.1, h.pairs.0);
    across = (adj.symmetric r p ∙ h.across.0, adj.symmetric r q ∙ h.across.2, adj.symmetric s p ∙ h.across.1, adj.symmetric s q ∙ h.across.3);
  }

  -- the value, and the class that such pairs bar
  abbrev IsValue : Bool → Type 0
  IsValue false = Unit {0}
  IsValue true = class ≡ Threshold

  two_edges_bar : (c : Class) → c ≡ Threshold → Bars TwoK2 c
  two_edges_bar Trivial told = absurd (cc)
  two_edges_bar Threshold told = tt

  in_order : (v : Bool) → IsValue v → (p q r s : ℕ) → HaveValues (adjacent g) v p q r s → AreInside g.vertices p q r s → p < q → r < s → p < r → Barred
  in_order false may p q r s h i pq rs pr = (record { kind = C4; a = p; b = r; c = q; d = s }, record { bars = tt; is = cycle_of adj g.vertices p q r s h i (pq, rs, pr) })
  in_order true may p q r s h i pq rs pr = (record { kind = TwoK2; a = p; b = q; c = r; d = s }, record { bars = two_edges_bar class may; is = edges_of adj g.vertices p q r s h i (pq, rs, pr) })

  -- names of the two pairs differ
  firsts_differ : (v : Bool) (p q r s : ℕ) → HaveValues (adjacent g) v p q r s → p ≢ r
  firsts_differ v p q r s h same = not_both v (adjacent g r q) (subst (λ k. adjacent g k q ≡ v) same h.pairs.0) (adj.symmetric r q ∙ h.across.2)

  by_firsts : (v : Bool) → IsValue v → (p q r s : ℕ) → HaveValues (adjacent g) v p q r s → AreInside g.vertices p q r s → p < q → r < s → Barred
  by_firsts v may p q r s h i pq rs = elim (cases_order p r) [
    | inl same ↦ absurd (firsts_differ v p q r s h same)
    | inr (inl up) ↦ in_order v may p q r s h i pq rs up
    | inr (inr down) ↦ in_order v may r s p q (pairs_turned v p q r s h) (i.2, i.3, i.0, i.1) rs pq down
  ]

  by_second : (v : Bool) → IsValue v → (p q r s : ℕ) → HaveValues (adjacent g) v p q r s → AreInside g.vertices p q r s → r ≢ s → p < q → Barred
  by_second v may p q r s h i rs pq = elim (cases_order r s) [
    | inl same ↦ absurd (rs same)
    | inr (inl up) ↦ by_firsts v may p q r s h i pq up
    | inr (inr down) ↦ by_firsts v may p q s r (second_turned v p q r s h) (i.0, i.1, i.3, i.2) pq down
  ]

  two_pairs_bar : (v : Bool) → IsValue v → (p q r s : ℕ) → HaveValues (adjacent g) v p q r s → AreInside g.vertices p q r s → p ≢ q → r ≢ s → Barred
  two_pairs_bar v may p q r s h i pq rs = elim (cases_order p q) [
    | inl same ↦ absurd (pq same)
    | inr (inl up) ↦ by_second v may p q r s h i rs up
    | inr (inr down) ↦ by_second v may q p r s (first_turned v p q r s h) (i.1, i.0, i.2, i.3) rs down
  ]

  -- ---- two vertices that cross

  module _ (u v x y : ℕ) (own : IsOwn (adjacent g) u v x) (other : IsOwn (adjacent g) v u y) where
    ends_u : Has g.vertices u × Has g.vertices x × (u ≢ x)
    ends_u = adjacent_ends is u x own.0

    ends_v : Has g.vertices v × Has g.vertices y × (v ≢ y)
    ends_v = adjacent_ends is v y other.0

    -- where they are adjacent: a path, or a cycle
    by_edge : (b : Bool) → adjacent g x y ≡ b → adjacent g u v ≡ true → Barred
    by_edge false apart edge =
        path_bar_of x u v y (record { edges = (adj.symmetric x u ∙ own.0, edge, other.0); apart = (adj.symmetric x v ∙ own.1, apart, other.1) })
    by_edge true joined edge =
        two_pairs_bar false tt u y v x
        (record { pairs = (other.1, own.1); across = (edge, own.0, adj.symmetric y v ∙ other.0, adj.symmetric y x ∙ joined) })
        (ends_u.0, ends_v.1, ends_v.0, ends_u.1) (λ same. other.2 (sym same)) (λ same. own.2 (sym same))

    -- where they aren't, a path, or two edges
    by_gap : class ≡ Threshold → (b : Bool) → adjacent g x y ≡ b → adjacent g u v ≡ false → Barred
    by_gap may false apart gap =
        two_pairs_bar true may u x v y
        (record { pairs = (own.0, other.0); across = (gap, other.1, adj.symmetric x v ∙ own.1, apart) })
        (ends_u.0, ends_u.1, ends_v.0, ends_v.1) ends_u.2 ends_v.2
    by_gap may true joined gap =
        path_bar_of u x y v (record { edges = (own.0, joined, adj.symmetric y v ∙ other.0); apart = (other.1, gap, adj.symmetric x v ∙ own.1) })

    by_pair : class ≡ Threshold → (b : Bool) → adjacent g u v ≡ b → Barred
    by_pair may true edge = by_edge (adjacent g x y) refl edge
    by_pair may false gap = by_gap may (adjacent g x y) refl gap

  pub adjacent_bar : (u v : ℕ) → adjacent g u v ≡ true → AreCrossing (adjacent g) u v → Barred
  adjacent_bar u v edge cross = by_edge u v cross.0.0 cross.1.0 cross.0.1 cross.1.1 (adjacent g cross.0.0 cross.1.0) refl edge

  pub crossing_bar : class ≡ Threshold → (u v : ℕ) → AreCrossing (adjacent g) u v → Barred
  crossing_bar may u v cross = by_pair u v cross.0.0 cross.1.0 cross.0.1 cross.1.1 may (adjacent g u v) refl

-- ---- cycles and two edges

module _ {g : PlainGraph} (is : IsGraph g) where
  same_ways : (a b : ℕ) → adjacent g a b ≡ adjacent g b a
  same_ways = (graph_adjacency is).symmetric

  -- each vertex of a cycle crosses the next one, which it is adjacent to
  abbrev CrossesNeighbour : ℕ → Type 0
  CrossesNeighbour w = (q : ℕ) × (adjacent g w q ≡ true) × AreCrossing (adjacent g) w q

  of_cycle : (a b c d w : ℕ) → IsInducedCycle (adjacent g) g.vertices a b c d → (w ≡ a) ⊎ (w ≡ b) ⊎ (w ≡ c) ⊎ (w ≡ d) → CrossesNeighbour w
  of_cycle a b c d w k (inl same) = subst CrossesNeighbour (sym same)
      (b, k.edges.0, ((d, (same_ways a d ∙ k.edges.3, k.apart.1, (λ e. k.different.4 (sym e)))), (c, (k.edges.1, k.apart.0, (λ e. k.different.1 (sym e))))))
  of_cycle a b c d w k (inr (inl same)) = subst CrossesNeighbour (sym same)
      (c, k.edges.1, ((a, (same_ways b a ∙ k.edges.0, same_ways c a ∙ k.apart.0, k.different.1)), (d, (k.edges.2, k.apart.1, (λ e. k.different.4 (sym e))))))
  of_cycle a b c d w k (inr (inr (inl same))) = subst CrossesNeighbour (sym same)
      (d, k.edges.2, ((b, (same_ways c b ∙ k.edges.1, same_ways d b ∙ k.apart.1, k.different.4)), (a, (k.edges.3, same_ways c a ∙ k.apart.0, k.different.1))))
  of_cycle a b c d w k (inr (inr (inr same))) = subst CrossesNeighbour (sym same)
      (a, k.edges.3, ((c, (same_ways d c ∙ k.edges.2, k.apart.0, (λ e. k.different.1 (sym e)))), (b, (k.edges.0, same_ways d b ∙ k.apart.1, k.different.4))))

  -- each vertex of two edges crosses one of the other edge
  abbrev CrossesOne : ℕ → Type 0
  CrossesOne w = (q : ℕ) × Has g.vertices q × AreCrossing (adjacent g) w q

  of_edges : (a b c d w : ℕ) → AreTwoEdges (adjacent g) g.vertices a b c d → (w ≡ a) ⊎ (w ≡ b) ⊎ (w ≡ c) ⊎ (w ≡ d) → CrossesOne w
  of_edges a b c d w k (inl same) = subst CrossesOne (sym same)
      (c, k.inside.2, ((b, (k.edges.0, same_ways c b ∙ k.apart.2, k.different.3)), (d, (k.edges.1, k.apart.1, (λ e. k.different.2 (sym e))))))
  of_edges a b c d w k (inr (inl same)) = subst CrossesOne (sym same)
      (c, k.inside.2, ((a, (same_ways b a ∙ k.edges.0, same_ways c a ∙ k.apart.0, k.different.1)), (d, (k.edges.1, k.apart.3, (λ e. k.different.4 (sym e))))))
  of_edges a b c d w k (inr (inr (inl same))) = subst CrossesOne (sym same)
      (a, k.inside.0, ((d, (k.edges.1, k.apart.1, (λ e. k.different.2 (sym e)))), (b, (k.edges.0, same_ways c b ∙ k.apart.2, k.different.3))))
  of_edges a b c d w k (inr (inr (inr same))) = subst CrossesOne (sym same)
      (a, k.inside.0, ((c, (same_ways d c ∙ k.edges.1, k.apart.0, (λ e. k.different.1 (sym e)))), (b, (k.edges.0, same_ways d b ∙ k.apart.3, k.different.4))))

  -- a bar at w that is no path, in a trivially perfect class: w crosses a neighbour
  pub trivial_at : (w : ℕ) (bar : Bar) → IsBar Trivial (adjacent g) g.vertices bar → IsNameOf w bar → (bar.kind ≡ P4) ⊎ CrossesNeighbour w
  trivial_at w bar k name = by_kind bar.kind refl k.bars k.is where
    by_kind : (kind : BarKind) → bar.kind ≡ kind → Bars kind Trivial → IsBarOfKind kind (adjacent g) g.vertices bar.a bar.b bar.c bar.d → (bar.kind ≡ P4) ⊎ CrossesNeighbour w
    by_kind P4 same may shape = inl same
    by_kind C4 same may shape = inr (of_cycle bar.a bar.b bar.c bar.d w shape name)
    by_kind TwoK2 same may shape = absurd may

  pub threshold_at : (w : ℕ) (bar : Bar) → IsBar Threshold (adjacent g) g.vertices bar → IsNameOf w bar → (bar.kind ≡ P4) ⊎ CrossesOne w
  threshold_at w bar k name = by_kind bar.kind refl k.is where
    by_kind : (kind : BarKind) → bar.kind ≡ kind → IsBarOfKind kind (adjacent g) g.vertices bar.a bar.b bar.c bar.d → (bar.kind ≡ P4) ⊎ CrossesOne w
    by_kind P4 same shape = inl same
    by_kind C4 same shape = let one : CrossesNeighbour w = of_cycle bar.a bar.b bar.c bar.d w shape name in inr (one.0, (adjacent_ends is w one.0 one.1).1, one.2)
    by_kind TwoK2 same shape = inr (of_edges bar.a bar.b bar.c bar.d w shape name)

-- ---- the neighbours of u but v and those of v

module _ {g : PlainGraph} (is : IsGraph g) (u v : ℕ) (own : NameSet) (made : own ≡ remove (difference (neighbours g u) (neighbours g v)) v) where
  pub own_of : (x : ℕ) → Has own x → IsOwn (adjacent g) u v x
  own_of x h =
      let a : (x ≢ v) × Has (difference (neighbours g u) (neighbours g v)) x = of_remove (difference (neighbours g u) (neighbours g v)) v x (subst (λ s. Has s x) made h) in
      let b = of_minus (neighbours g u) (neighbours g v) x a.1 in
      (sym (contains-neighbours is u x) ∙ b.0, sym (contains-neighbours is v x) ∙ b.1, a.0)

  pub own_in : (x : ℕ) → IsOwn (adjacent g) u v x → Has own x
  own_in x one =
      subst (λ s. Has s x) (sym made)
      (remove_left (difference (neighbours g u) (neighbours g v)) v x one.2 (minus_has (neighbours g u) (neighbours g v) x (contains-neighbours is u x ∙ one.0) (contains-neighbours is v x ∙ one.1)))

-- ---- neighbours

module _ {g : PlainGraph} (is : IsGraph g) (w : ℕ) (near : NameSet) (told : near ≡ neighbours g w) (x : ℕ) where
  pub near_joined : Has near x → adjacent g w x ≡ true
  near_joined h = sym (contains-neighbours is w x) ∙ subst (λ s. Has s x) told h

  pub near_vertex : Has near x → Has g.vertices x
  near_vertex h = (adjacent_ends is w x (near_joined h)).1

  pub joined_near : adjacent g w x ≡ true → Has near x
  joined_near edge = subst (λ s. Has s x) (sym told) (contains-neighbours is w x ∙ edge)
