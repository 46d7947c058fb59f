-- The graph that the text spells is the graph with each vertex named by its place.
use Rattle.std.specs.Prelude.{◌≡◌, ℕ, ◌+◌, ◌<◌, ◌≤◌, ◌⊎◌, Bool, true, ◌||◌, List, [], ◌∷◌, map, Some, refl}
use Rattle.std.specs.List.{list_any}
use Rattle.std.specs.Cmp.{both_ways}
use Rattle.std.proofs.Common.{ap, sym, ◌∙◌, arith, inl, inr}
use Rattle.std.proofs.lemmas.Bool.{cases_order, and_parts, and_from, or_cases, or_left, or_right, eqb-true, eq-eqb}
use Rattle.std.proofs.lemmas.List.Elements.{All-contains, All-weaker}
use Rattle.std.proofs.lemmas.List.Folds.{Any-from_list_any, list_any-from_Any}
use Rattle.std.specs.FinSet as set
use Rattle.md_graph.specs.declared.TheConstants.{NAMES}
use Rattle.md_graph.specs.Sets.{NameSet, Has}
use Rattle.md_graph.specs.NameSet.{ascending, ascending_from, ascending_between}
use Rattle.md_graph.specs.PlainGraph.{PlainGraph, IsGraph, adjacent, neighbours}
use Rattle.md_graph.proofs.GraphLemmas.{adjacent_sym, adjacent_ends, contains-neighbours}
use Rattle.md_graph.proofs.NameLemmas.{IsItem, ascending_items, ascending_appears}
use Rattle.md_text.proofs.ListLemmas.{any_map, any_flat_map, any_alike}
use Rattle.md_dimacs.specs.File.{are_ends, is_edge_line}
use Rattle.md_dimacs.specs.Text.{position, edges_above, edge_places, edge_line, dimacs_text, IsRenamed}
use Rattle.md_dimacs.specs.Laws.{SpellsRenamed}
use Rattle.md_dimacs.proofs.FileLemmas.{vertices_read, edges_read, spelled_only, spelled_has_no_fault}
use Rattle.md_dimacs.proofs.RoundTrip.{ArePlaces, position_same, ends-edge_line, all_places, read_back, text_spells}

-- ---- a test of listed members

-- a member in the range that passes
pub record Passing (s : NameSet) (low n : ℕ) (p : ℕ → Bool) : Type 0 where
  pub found : ℕ
  pub item : IsItem s low n found
  pub passes : p found ≡ true

any_from : (p : ℕ → Bool) (s : NameSet) (low n : ℕ) → list_any p (ascending_between s low n) ≡ true → Passing s low n p
any_from p s low n h =
    let xs = ascending_between s low n in
    let (k, x, inside, is, passes) = Any-from_list_any p xs h in
    record { found = x; item = All-contains (IsItem s low n) xs x (ascending_items s low n) (k, inside, is); passes = passes }

any_to : (p : ℕ → Bool) (s : NameSet) (low n w : ℕ) → low ≤ w → w < n → Has s w → p w ≡ true → list_any p (ascending_between s low n) ≡ true
any_to p s low n w from below m passes =
    let (k, inside, is) = ascending_appears s low n w m from below in
    list_any-from_Any p (ascending_between s low n) (k, w, inside, is, passes)

-- ---- the edges

-- whether two places are those of the ends a and b
abbrev at_places : ℕ → ℕ → ℕ × ℕ → Bool
at_places a b p = are_ends a b (Some p)

lines_join : (g : PlainGraph) → IsGraph g → set.len g.vertices < NAMES → (a b : ℕ) → list_any (is_edge_line a b) (map edge_line (edge_places g)) ≡ list_any (at_places a b) (edge_places g)
lines_join g is small a b =
    any_map (is_edge_line a b) edge_line (edge_places g)
    ∙ any_alike (λ p. is_edge_line a b (edge_line p)) (at_places a b) (edge_places g)
    (All-weaker (ArePlaces (set.len g.vertices)) (λ p. is_edge_line a b (edge_line p) ≡ at_places a b p) (λ p places. ap (are_ends a b) (ends-edge_line (set.len g.vertices) p small places)) (edge_places g) (all_places g is))

-- the test of one row
abbrev in_row : PlainGraph → ℕ → ℕ → ℕ → Bool
in_row g a b v = list_any (λ w. at_places a b (position g v, position g w)) (ascending_from (neighbours g v) (v + 1))

rows_join : (g : PlainGraph) (a b : ℕ) → list_any (at_places a b) (edge_places g) ≡ list_any (in_row g a b) (ascending g.vertices)
unfolding edge_places edges_above
rows_join g a b =
    any_flat_map (at_places a b) (edges_above g) (ascending g.vertices) ∙ rows_alike (ascending g.vertices)
  where
    rows_alike : (vs : List ℕ) → list_any (λ v. list_any (at_places a b) (edges_above g v)) vs ≡ list_any (in_row g a b) vs
    rows_alike [] = refl
    rows_alike (v ∷ vs) = λ i. any_map (at_places a b) (λ w. (position g v, position g w)) (ascending_from (neighbours g v) (v + 1)) i || rows_alike vs i

ends_are : (g : PlainGraph) (u v x y : ℕ) → Has g.vertices u → Has g.vertices v → Has g.vertices x → Has g.vertices y
    → at_places (position g u) (position g v) (position g x, position g y) ≡ true → ((u ≡ x) × (v ≡ y)) ⊎ ((u ≡ y) × (v ≡ x))
ends_are g u v x y mu mv mx my h = elim (or_cases _ _ h) [
  | inl straight ↦
      let parts = and_parts _ _ straight in
      inl (position_same g u x mu mx (eqb-true _ _ parts.0), position_same g v y mv my (eqb-true _ _ parts.1))
  | inr turned ↦
      let parts = and_parts _ _ turned in
      inr (position_same g u y mu my (eqb-true _ _ parts.0), position_same g v x mv mx (eqb-true _ _ parts.1))
]

found_edge : (g : PlainGraph) → IsGraph g → (u v : ℕ) → Has g.vertices u → Has g.vertices v
    → list_any (in_row g (position g u) (position g v)) (ascending g.vertices) ≡ true → adjacent g u v ≡ true
found_edge g is u v mu mv h =
    let row = any_from (in_row g (position g u) (position g v)) g.vertices 0 NAMES h in
    let x = row.found in
    let end = any_from (λ w. at_places (position g u) (position g v) (position g x, position g w)) (neighbours g x) (x + 1) NAMES row.passes in
    let y = end.found in
    let edge : adjacent g x y ≡ true = sym (contains-neighbours is x y) ∙ end.item.member in
    elim (ends_are g u v x y mu mv row.item.member (adjacent_ends is x y edge).1 end.passes) [
      | inl straight ↦ (λ i. adjacent g (straight.0 i) (straight.1 i)) ∙ edge
      | inr turned ↦ (λ i. adjacent g (turned.0 i) (turned.1 i)) ∙ adjacent_sym g y x ∙ edge
    ]

same_places : (a b : ℕ) → at_places a b (a, b) ≡ true
same_places a b = or_left _ _ (and_from _ _ (eq-eqb a a refl) (eq-eqb b b refl))

turned_places : (a b : ℕ) → at_places a b (b, a) ≡ true
turned_places a b = or_right _ _ (and_from _ _ (eq-eqb a a refl) (eq-eqb b b refl))

edge_found_at : (g : PlainGraph) → IsGraph g → (a b x y : ℕ) → x < y → adjacent g x y ≡ true → at_places a b (position g x, position g y) ≡ true
    → list_any (in_row g a b) (ascending g.vertices) ≡ true
edge_found_at g is a b x y up edge passes =
    let ends = adjacent_ends is x y edge in
    any_to (in_row g a b) g.vertices 0 NAMES x (omega arith) (is.names x ends.0) ends.0
    (any_to (λ w. at_places a b (position g x, position g w)) (neighbours g x) (x + 1) NAMES y (omega arith) (is.names y ends.1) (contains-neighbours is x y ∙ edge) passes)

edge_found : (g : PlainGraph) → IsGraph g → (u v : ℕ) → adjacent g u v ≡ true → list_any (in_row g (position g u) (position g v)) (ascending g.vertices) ≡ true
edge_found g is u v edge =
    elim (cases_order u v) [
      | inl same ↦ absurd ((adjacent_ends is u v edge).2 same)
      | inr (inl up) ↦ edge_found_at g is (position g u) (position g v) u v up edge (same_places (position g u) (position g v))
      | inr (inr down) ↦ edge_found_at g is (position g u) (position g v) v u down (adjacent_sym g v u ∙ edge) (turned_places (position g u) (position g v))
    ]

-- ---- the law

is_renamed : (g : PlainGraph) → IsGraph g → set.len g.vertices < NAMES → IsRenamed g (read_back g)
is_renamed g is small =
    let spelled = text_spells g is small in
    record {
      vertices = vertices_read (set.len g.vertices) (map edge_line (edge_places g));
      edges = λ u v mu mv.
          edges_read (set.len g.vertices) (map edge_line (edge_places g)) (position g u) (position g v) ∙ lines_join g is small (position g u) (position g v) ∙ rows_join g (position g u) (position g v)
          ∙ both_ways _ _ (found_edge g is u v mu mv) (edge_found g is u v);
      graph = spelled.graph;
    }

pub text_is_read : (g : PlainGraph) → IsGraph g → set.len g.vertices < NAMES → SpellsRenamed (dimacs_text g) g
text_is_read g is small =
    let spelled = text_spells g is small in
    record {
      named = read_back g;
      renamed = is_renamed g is small;
      spelled = spelled_only NAMES (dimacs_text g) (read_back g) spelled;
      faultless = spelled_has_no_fault NAMES (dimacs_text g) (read_back g) spelled;
    }
