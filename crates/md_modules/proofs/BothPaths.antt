-- The search for an induced path with two given vertices.
use Rattle.std.proofs.Common.{◌≡◌, ℕ, Bool, true, false, not, ◌↔◌, ◌≢◌, refl, sym, ◌∙◌, ap, subst, inl, inr}
use Rattle.std.specs.FinSet.{contains, difference, intersection, remove}
use Rattle.md_graph.specs.PlainGraph.{PlainGraph, IsGraph, adjacent, neighbours}
use Rattle.md_graph.proofs.GraphLemmas.{adjacent_sym, adjacent_ends}
use Rattle.md_graph.specs.Sets.{NameSet, Has}
use Rattle.md_modules.specs.InducedPaths.{HasPathEdges, IsOneOf, IsInducedPathWithBoth}
use Rattle.md_modules.specs.PathSearch.{IsPathOf, IsSeenAlone, IsSeenAlike}
use Rattle.md_modules.specs.declared.induced_paths.P4.{P4}
use Rattle.md_graph.proofs.SetLemmas.{Has-along, minus_has, of_minus, meet_has, of_meet, remove_left, of_remove}
use Rattle.md_modules.proofs.PathSearch.{turned_edges, turned_one, told_apart, ends_differ, path_of_order, near_is, vertex}

-- no one of the set is to m as value doesn't say
pub record NoneAcross (g : PlainGraph) (seconds : NameSet) (value : Bool) (m : ℕ) : Type 0 where
  pub none : (z : ℕ) → Has seconds z → adjacent g m z ≡ not value → ⊥

module _ {g : PlainGraph} (is_graph : IsGraph g) (u v : ℕ) where
  -- ---- who sees what

  module _ (near_u near_v : NameSet) (is_u : near_u ≡ neighbours g u) (is_v : near_v ≡ neighbours g v) where
    u_sees : (z : ℕ) → contains near_u z ≡ adjacent g u z
    u_sees z = near_is is_graph u near_u is_u z

    v_sees : (z : ℕ) → contains near_v z ≡ adjacent g v z
    v_sees z = near_is is_graph v near_v is_v z

    pub alone : (left names : NameSet) → left ≡ difference near_u near_v → names ≡ remove left v → (z : ℕ) → Has names z ↔ IsSeenAlone g u v z
    alone left names is_left is_names z = (
      (λ h.
          let kept = of_remove left v z (Has-along names _ is_names z h) in
          let parts = of_minus near_u near_v z (Has-along left _ is_left z kept.1) in
          record { sees = sym (u_sees z) ∙ parts.0; misses = sym (v_sees z) ∙ parts.1; other = kept.0 }),
      (λ is. Has-along _ names (sym is_names) z (remove_left left v z is.other
          (Has-along _ left (sym is_left) z (minus_has near_u near_v z (u_sees z ∙ is.sees) (v_sees z ∙ is.misses))))),
    )

    pub alike_seen : (names : NameSet) (joined : Bool) → joined ≡ false → names ≡ intersection near_u near_v → (z : ℕ) → Has names z ↔ IsSeenAlike g u v joined z
    alike_seen names joined is is_names z = (
      (λ h.
          let parts = of_meet near_u near_v z (Has-along names _ is_names z h) in
          let sees = sym (u_sees z) ∙ parts.0 in
          record {
            vertex = (adjacent_ends is_graph u z sees).1;
            first = sees ∙ sym (ap not is);
            second = sym (v_sees z) ∙ parts.1 ∙ sym (ap not is);
          }),
      (λ like. Has-along _ names (sym is_names) z (meet_has near_u near_v z (u_sees z ∙ like.first ∙ ap not is) (v_sees z ∙ like.second ∙ ap not is))),
    )

    pub alike_missed : (vertices left names : NameSet) (joined : Bool) → joined ≡ true → vertices ≡ g.vertices → left ≡ difference vertices near_u → names ≡ difference left near_v →
        (z : ℕ) → Has names z ↔ IsSeenAlike g u v joined z
    alike_missed vertices left names joined is is_vertices is_left is_names z = (
      (λ h.
          let outer = of_minus left near_v z (Has-along names _ is_names z h) in
          let inner = of_minus vertices near_u z (Has-along left _ is_left z outer.0) in
          record {
            vertex = Has-along vertices g.vertices is_vertices z inner.0;
            first = sym (u_sees z) ∙ inner.1 ∙ sym (ap not is);
            second = sym (v_sees z) ∙ outer.1 ∙ sym (ap not is);
          }),
      (λ like. Has-along _ names (sym is_names) z (minus_has left near_v z
          (Has-along _ left (sym is_left) z (minus_has vertices near_u z (Has-along g.vertices vertices (sym is_vertices) z like.vertex) (u_sees z ∙ like.first ∙ ap not is)))
          (v_sees z ∙ like.second ∙ ap not is))),
    )

  abbrev PathWithBoth : P4 → Type 0
  PathWithBoth p = IsInducedPathWithBoth (adjacent g) g.vertices u v p.a p.b p.c p.d

  both_of_order : (a b c d : ℕ) → HasPathEdges (adjacent g) a b c d → IsOneOf u a b c d → IsOneOf v a b c d → (p : P4) → IsPathOf p a b c d → PathWithBoth p
  both_of_order a b c d is one other p order =
      let with_u = path_of_order is_graph u a b c d is one p order in
      let with_v = path_of_order is_graph v a b c d is other p order in
      record { path = with_u.path; first = with_u.holds; second = with_v.holds }

  -- ---- what is found

  -- a name that u sees alone, and one that v sees alone
  pub path_of_pair : (joined : Bool) → joined ≡ adjacent g u v → (b c : ℕ) → IsSeenAlone g u v b → IsSeenAlone g v u c → adjacent g b c ≡ not joined →
      (p : P4) → (joined ≡ true → IsPathOf p b u v c) → (joined ≡ false → IsPathOf p u b c v) → PathWithBoth p
  path_of_pair true is b c at_u at_v across p inner outer =
      both_of_order b u v c
      (record {
        edges = (adjacent_sym g b u ∙ at_u.sees, sym is, at_v.sees);
        apart = (adjacent_sym g b v ∙ at_u.misses, across, at_v.misses);
      })
      (inr (inl refl)) (inr (inr (inl refl))) p (inner refl)
  path_of_pair false is b c at_u at_v across p inner outer =
      both_of_order u b c v
      (record {
        edges = (at_u.sees, across, adjacent_sym g c v ∙ at_v.sees);
        apart = (at_v.misses, sym is, adjacent_sym g b v ∙ at_u.misses);
      })
      (inl refl) (inr (inr (inr refl))) p (outer refl)

  -- a name that v sees alone, and one that both see alike
  pub path_beyond : (joined : Bool) → joined ≡ adjacent g u v → (m z : ℕ) → IsSeenAlone g v u m → IsSeenAlike g u v joined z → adjacent g m z ≡ joined →
      (p : P4) → (joined ≡ true → IsPathOf p u v m z) → (joined ≡ false → IsPathOf p u z v m) → PathWithBoth p
  path_beyond true is m z at_v alike across p next over =
      both_of_order u v m z
      (record {
        edges = (sym is, at_v.sees, across);
        apart = (at_v.misses, alike.first, alike.second);
      })
      (inl refl) (inr (inl refl)) p (next refl)
  path_beyond false is m z at_v alike across p next over =
      both_of_order u z v m
      (record {
        edges = (alike.first, adjacent_sym g z v ∙ alike.second, at_v.sees);
        apart = (sym is, at_v.misses, adjacent_sym g z m ∙ across);
      })
      (inl refl) (inr (inr (inl refl))) p (over refl)

pub turned_both : (g : PlainGraph) (u v a b c d : ℕ) → IsInducedPathWithBoth (adjacent g) g.vertices v u a b c d → IsInducedPathWithBoth (adjacent g) g.vertices u v a b c d
turned_both g u v a b c d is = record { path = is.path; first = is.second; second = is.first }

pub turned_alike : (g : PlainGraph) (u v z : ℕ) (joined : Bool) → IsSeenAlike g u v joined z → IsSeenAlike g v u joined z
turned_alike g u v z joined is = record { vertex = is.vertex; first = is.second; second = is.first }

-- ---- what isn't there

module _ {g : PlainGraph} (is_graph : IsGraph g) (u v : ℕ) (differ : u ≢ v) (joined : Bool) (is : joined ≡ adjacent g u v)
    (no_pair : (b c : ℕ) → IsSeenAlone g u v b → IsSeenAlone g v u c → adjacent g b c ≡ not joined → ⊥)
    (none_past_v : (m z : ℕ) → IsSeenAlone g v u m → IsSeenAlike g u v joined z → adjacent g m z ≡ joined → ⊥)
    (none_past_u : (m z : ℕ) → IsSeenAlone g u v m → IsSeenAlike g u v joined z → adjacent g m z ≡ joined → ⊥) where
  -- u as an end
  no_end : (b c d : ℕ) → HasPathEdges (adjacent g) u b c d → IsOneOf v u b c d → ⊥
  no_end b c d path (inl same) = differ (sym same)
  no_end b c d path (inr (inl same)) =
      let there : joined ≡ true = is ∙ ap (adjacent g u) same ∙ path.edges.0 in
      none_past_v c d
      (record {
        sees = ap (λ x. adjacent g x c) same ∙ path.edges.1;
        misses = path.apart.0;
        other = told_apart (adjacent g) c u d path.edges.2 path.apart.1;
      })
      (record {
        vertex = vertex is_graph c d path.edges.2;
        first = path.apart.1 ∙ sym (ap not there);
        second = ap (λ x. adjacent g x d) same ∙ path.apart.2 ∙ sym (ap not there);
      })
      (path.edges.2 ∙ sym there)
  no_end b c d path (inr (inr (inl same))) =
      let absent : joined ≡ false = is ∙ ap (adjacent g u) same ∙ path.apart.0 in
      none_past_v d b
      (record {
        sees = ap (λ x. adjacent g x d) same ∙ path.edges.2;
        misses = path.apart.1;
        other = λ back. ends_differ is_graph u b c d path (sym back);
      })
      (record {
        vertex = vertex is_graph u b path.edges.0;
        first = path.edges.0 ∙ sym (ap not absent);
        second = ap (λ x. adjacent g x b) same ∙ adjacent_sym g c b ∙ path.edges.1 ∙ sym (ap not absent);
      })
      (adjacent_sym g d b ∙ path.apart.2 ∙ sym absent)
  no_end b c d path (inr (inr (inr same))) =
      let absent : joined ≡ false = is ∙ ap (adjacent g u) same ∙ path.apart.1 in
      no_pair b c
      (record {
        sees = path.edges.0;
        misses = ap (λ x. adjacent g x b) same ∙ adjacent_sym g d b ∙ path.apart.2;
        other = λ there. told_apart (adjacent g) b d u (adjacent_sym g b u ∙ path.edges.0) (adjacent_sym g d u ∙ path.apart.1) (there ∙ same);
      })
      (record {
        sees = ap (λ x. adjacent g x c) same ∙ adjacent_sym g d c ∙ path.edges.2;
        misses = path.apart.0;
        other = told_apart (adjacent g) c u d path.edges.2 path.apart.1;
      })
      (path.edges.1 ∙ sym (ap not absent))

  -- u as the second
  no_inner : (a c d : ℕ) → HasPathEdges (adjacent g) a u c d → IsOneOf v a u c d → ⊥
  no_inner a c d path (inl same) =
      let there : joined ≡ true = is ∙ ap (adjacent g u) same ∙ adjacent_sym g u a ∙ path.edges.0 in
      none_past_u c d
      (record {
        sees = path.edges.1;
        misses = ap (λ x. adjacent g x c) same ∙ path.apart.0;
        other = λ back. told_apart (adjacent g) c a d path.edges.2 path.apart.1 (back ∙ same);
      })
      (record {
        vertex = vertex is_graph c d path.edges.2;
        first = path.apart.2 ∙ sym (ap not there);
        second = ap (λ x. adjacent g x d) same ∙ path.apart.1 ∙ sym (ap not there);
      })
      (path.edges.2 ∙ sym there)
  no_inner a c d path (inr (inl same)) = differ (sym same)
  no_inner a c d path (inr (inr (inl same))) =
      let there : joined ≡ true = is ∙ ap (adjacent g u) same ∙ path.edges.1 in
      no_pair a d
      (record {
        sees = adjacent_sym g u a ∙ path.edges.0;
        misses = ap (λ x. adjacent g x a) same ∙ adjacent_sym g c a ∙ path.apart.0;
        other = λ back. told_apart (adjacent g) c a d path.edges.2 path.apart.1 (sym (back ∙ same));
      })
      (record {
        sees = ap (λ x. adjacent g x d) same ∙ path.edges.2;
        misses = path.apart.2;
        other = λ back. told_apart (adjacent g) u d a (adjacent_sym g u a ∙ path.edges.0) (adjacent_sym g d a ∙ path.apart.1) (sym back);
      })
      (path.apart.1 ∙ sym (ap not there))
  no_inner a c d path (inr (inr (inr same))) =
      let absent : joined ≡ false = is ∙ ap (adjacent g u) same ∙ path.apart.2 in
      none_past_u a c
      (record {
        sees = adjacent_sym g u a ∙ path.edges.0;
        misses = ap (λ x. adjacent g x a) same ∙ adjacent_sym g d a ∙ path.apart.1;
        other = λ back. ends_differ is_graph a u c d path (back ∙ same);
      })
      (record {
        vertex = vertex is_graph u c path.edges.1;
        first = path.edges.1 ∙ sym (ap not absent);
        second = ap (λ x. adjacent g x c) same ∙ adjacent_sym g d c ∙ path.edges.2 ∙ sym (ap not absent);
      })
      (path.apart.0 ∙ sym absent)

  pub no_path_with_both : (a b c d : ℕ) → IsInducedPathWithBoth (adjacent g) g.vertices u v a b c d → ⊥
  no_path_with_both a b c d path =
      let edges : HasPathEdges (adjacent g) a b c d = record { edges = path.path.edges; apart = path.path.apart } in
      let turned : HasPathEdges (adjacent g) d c b a = turned_edges g a b c d edges in
      let other : IsOneOf v d c b a = turned_one v a b c d path.second in
      elim path.first [
        | inl at ↦ no_end b c d (subst (λ x. HasPathEdges (adjacent g) x b c d) (sym at) edges) (subst (λ x. IsOneOf v x b c d) (sym at) path.second)
        | inr (inl at) ↦ no_inner a c d (subst (λ x. HasPathEdges (adjacent g) a x c d) (sym at) edges) (subst (λ x. IsOneOf v a x c d) (sym at) path.second)
        | inr (inr (inl at)) ↦ no_inner d b a (subst (λ x. HasPathEdges (adjacent g) d x b a) (sym at) turned) (subst (λ x. IsOneOf v d x b a) (sym at) other)
        | inr (inr (inr at)) ↦ no_end c b a (subst (λ x. HasPathEdges (adjacent g) x c b a) (sym at) turned) (subst (λ x. IsOneOf v x c b a) (sym at) other)
      ]
