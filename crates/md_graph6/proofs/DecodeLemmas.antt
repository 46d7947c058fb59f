-- The graph that a body spells: there is one, and it is the one that is decoded.
use Rattle.std.proofs.Common.{◌≡◌, ℕ, zero, suc, ◌<◌, ◌≤◌, ◌&&◌, Bool, true, nat_lt, List, inl, inr, refl, sym, ◌∙◌, arith}
use Rattle.std.specs.FinSet as set
use Rattle.std.proofs.lemmas.Bool.Decides.{nat_tests}
use Rattle.std.proofs.lemmas.Bool.{cases_Bool, ltb-true, lt-ltb}
use Rattle.md_graph.specs.declared.TheConstants.{NAMES}
use Rattle.md_graph.specs.Sets.{Has}
use Rattle.md_graph.specs.PlainGraph.{PlainGraph, IsGraph, adjacent, pairs_where}
use Rattle.md_graph.proofs.SetLaws.{same_set}
use Rattle.md_graph.proofs.PairLaws.{same_pairs}
use Rattle.md_graph.proofs.GraphLemmas.{contains-pairs_where, adjacent_up}
use Rattle.md_graph.specs.NameSet.{AllBelow, range}
use Rattle.md_graph.proofs.Ranges.{contains-range}
use Rattle.md_graph6.specs.Bits.{IsBodyOf}
use Rattle.md_graph6.specs.Line.{is_edge, graph_of_body}

-- the members of the numbers below n
pub contains-numbers_below : (n v : ℕ) → set.contains (range 0 n) v ≡ nat_lt v n
contains-numbers_below n v = contains-range 0 n v ∙ grind (arith, nat_tests)

-- the pairs of a decoded graph
contains-decoded : (body : List ℕ) (n u v : ℕ)
    → set.contains (graph_of_body body n).edges (u, v) ≡ ((nat_lt u v && nat_lt v n) && is_edge body u v)
unfolding graph_of_body
contains-decoded body n u v = contains-pairs_where (is_edge body) n u v

-- the parts of a test of an edge
edge_parts : (u v n : ℕ) (b : Bool) → ((nat_lt u v && nat_lt v n) && b) ≡ true → (u < v) × (v < n)
edge_parts u v n b e = (grind (arith, nat_tests), grind (arith, nat_tests))

-- a number below n is a member, and no other
below_is_member : (n v : ℕ) → v < n → Has (range 0 n) v
below_is_member n v small = contains-numbers_below n v ∙ lt-ltb v n small

-- the numbers below n are below no smaller number
pub numbers_few : (n m : ℕ) → AllBelow (range 0 n) m → n ≤ m
numbers_few zero m below = omega arith
numbers_few (suc k) m below =
    let last : k < m = below k (below_is_member (suc k) k (omega arith)) in omega (arith, last)

-- the numbers below n with the edges that pass a test are a graph
pub numbered_is_graph : (test : ℕ → ℕ → Bool) (n : ℕ) → n ≤ NAMES → IsGraph (record { vertices = range 0 n; edges = pairs_where test n })
numbered_is_graph test n few = record {
  names = λ v member. omega (arith, few, ltb-true v n (sym (contains-numbers_below n v) ∙ member));
  ordered = λ u v there. (ends u v there).0;
  low_end = λ u v there. let range = ends u v there in below_is_member n u (omega (arith, range.0, range.1));
  high_end = λ u v there. below_is_member n v (ends u v there).1;
}
  where
    ends : (u v : ℕ) → set.contains (pairs_where test n) (u, v) ≡ true → (u < v) × (v < n)
    ends u v there = edge_parts u v n (test u v) (sym (contains-pairs_where test n u v) ∙ there)

-- what is decoded is a graph
decoded_is_graph : (body : List ℕ) (n : ℕ) → n ≤ NAMES → IsGraph (graph_of_body body n)
unfolding graph_of_body
decoded_is_graph body n few = numbered_is_graph (is_edge body) n few

-- two names of a decoded graph
adjacent-decoded : (body : List ℕ) (n i j : ℕ) → i < j → j < n → adjacent (graph_of_body body n) i j ≡ is_edge body i j
adjacent-decoded body n i j low high =
    adjacent_up (graph_of_body body n) i j low ∙ contains-decoded body n i j
    ∙ rw (lt-ltb i j low, lt-ltb j n high) refl

pub decoded_is_body : (body : List ℕ) (n : ℕ) → n ≤ NAMES → IsBodyOf body n (graph_of_body body n)
unfolding graph_of_body
decoded_is_body body n few = record {
  vertices = contains-numbers_below n;
  graph = decoded_is_graph body n few;
  edges = adjacent-decoded body n;
}

-- the ends of an edge
pair_range : (body : List ℕ) (n : ℕ) (g : PlainGraph) → IsBodyOf body n g → (u v : ℕ)
    → set.contains g.edges (u, v) ≡ true → (u < v) × (v < n)
pair_range body n g of_g u v there =
    (of_g.graph.ordered u v there, ltb-true v n (sym (of_g.vertices v) ∙ of_g.graph.high_end u v there))

-- the bit of a pair
pair_bit : (body : List ℕ) (n : ℕ) (g : PlainGraph) → IsBodyOf body n g → (u v : ℕ) → (u < v) × (v < n)
    → set.contains g.edges (u, v) ≡ is_edge body u v
pair_bit body n g of_g u v range = sym (adjacent_up g u v range.0) ∙ of_g.edges u v range.0 range.1

same_bits : (body : List ℕ) (n : ℕ) (g h : PlainGraph) → IsBodyOf body n g → IsBodyOf body n h → (u v : ℕ)
    → set.contains g.edges (u, v) ≡ set.contains h.edges (u, v)
same_bits body n g h of_g of_h u v =
    elim (cases_Bool (set.contains g.edges (u, v))) [
      | inl there ↦
          let range : (u < v) × (v < n) = pair_range body n g of_g u v there in
          pair_bit body n g of_g u v range ∙ sym (pair_bit body n h of_h u v range)
      | inr absent ↦ elim (cases_Bool (set.contains h.edges (u, v))) [
        | inl there ↦
            let range : (u < v) × (v < n) = pair_range body n h of_h u v there in
            pair_bit body n g of_g u v range ∙ sym (pair_bit body n h of_h u v range)
        | inr none ↦ absent ∙ sym none
      ]
    ]

-- a body spells one graph
pub IsBodyOf-one : (body : List ℕ) (n : ℕ) (g h : PlainGraph) → IsBodyOf body n g → IsBodyOf body n h → g ≡ h
IsBodyOf-one body n g h of_g of_h =
    let vertices : g.vertices ≡ h.vertices =
    same_set g.vertices h.vertices (λ v. of_g.vertices v ∙ sym (of_h.vertices v)) in
    let edges : g.edges ≡ h.edges = same_pairs g.edges h.edges (same_bits body n g h of_g of_h) in
    λ i. record { vertices = vertices i; edges = edges i }
