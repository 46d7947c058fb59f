-- The graph that a tree denotes: adjacency in a tree has no direction and no loops, and it is that of the graph.
use Rattle.std.proofs.Common.{◌≡◌, ℕ, suc, ◌<◌, true, false, min, max, ◌&&◌, nat_lt, List, Option, Some, None, refl, sym, ◌∙◌, ap, inl, inr, arith}
use Rattle.std.proofs.lemmas.Bool.{cases_Bool, cases_eq, cases_order, eq-eqb, ne_eqb, lt-ltb, ltb-true, and_parts}
use Rattle.std.specs.FinSet.{contains}
use Rattle.md_graph.specs.declared.TheConstants.{NAMES}
use Rattle.md_graph.specs.Sets.{Has}
use Rattle.md_graph.specs.NameSet.{AllBelow}
use Rattle.md_graph.specs.PlainGraph.{IsGraph, adjacent, pairs_where}
use Rattle.md_graph.proofs.GraphLemmas.{contains-pairs_where, adjacent_sym, adjacent_up, adjacent_self, IsGraph-empty_graph}
use Rattle.md_tree.proofs.Edges.{here, later}
use Rattle.md_tree.proofs.Denoted.{joined_names}
use Rattle.md_tree.specs.declared.Kind.{Kind}
use Rattle.md_tree.specs.declared.Kind.TheVariants.{Parallel, Series, Prime}
use Rattle.md_tree.specs.declared.Pair.{Pair}
use Rattle.md_tree.specs.Trees.{PlainTree, leaf, node, PlainTrees, no_tree, one_more, names}
use Rattle.md_tree.specs.WellFormed.{IsWellFormed}
use Rattle.md_tree.specs.TreeGraph.{position_of, lists_pair, joins, adjacent_in, adjacent_below, graph_of_tree}

joins_turned : (k : Kind) (ps : List Pair) (i j : ℕ) → joins k ps i j ≡ joins k ps j i
joins_turned Parallel ps i j = refl
joins_turned Series ps i j = refl
joins_turned Prime ps i j =
    let low : min i j ≡ min j i = omega arith in
    let high : max i j ≡ max j i = omega arith in
    λ n. lists_pair ps (low n) (high n)

mutual
  pub adjacent_turned : (t : PlainTree) (a b : ℕ) → adjacent_in t a b ≡ adjacent_in t b a
  adjacent_turned (leaf v) a b = refl
  adjacent_turned (node k cs ps) a b =
      elim (cases_eq (position_of cs a) (position_of cs b)) [
        | inl same ↦ rw (eq-eqb (position_of cs a) (position_of cs b) same, eq-eqb (position_of cs b) (position_of cs a) (sym same)) (below_turned cs a b same)
        | inr other ↦ rw (ne_eqb (position_of cs a) (position_of cs b) other, ne_eqb (position_of cs b) (position_of cs a) (λ e. other (sym e))) (joins_turned k ps (position_of cs a) (position_of cs b))
      ]

  below_turned : (cs : PlainTrees) (a b : ℕ) → position_of cs a ≡ position_of cs b → adjacent_below cs a b ≡ adjacent_below cs b a
  below_turned no_tree a b same = refl
  below_turned (one_more t ts) a b same =
      elim (cases_Bool (contains (names t) a)) [
        | inl ha ↦ elim (cases_Bool (contains (names t) b)) [
          | inl hb ↦ rw (ha, hb) (adjacent_turned t a b)
          | inr lb ↦ absurd (let p : 0 ≡ suc (position_of ts b) = sym (here t ts a ha) ∙ same ∙ later t ts b lb in omega arith)
        ]
        | inr la ↦ elim (cases_Bool (contains (names t) b)) [
          | inl hb ↦ absurd (let p : suc (position_of ts a) ≡ 0 = sym (later t ts a la) ∙ same ∙ here t ts b hb in omega arith)
          | inr lb ↦
              let p : suc (position_of ts a) ≡ suc (position_of ts b) = sym (later t ts a la) ∙ same ∙ later t ts b lb in
              rw (la, lb) (below_turned ts a b (omega arith))
        ]
      ]

mutual
  pub adjacent_no_loop : (t : PlainTree) (a : ℕ) → adjacent_in t a a ≡ false
  adjacent_no_loop (leaf v) a = refl
  adjacent_no_loop (node k cs ps) a = rw (eq-eqb (position_of cs a) (position_of cs a) refl) (below_no_loop cs a)

  below_no_loop : (cs : PlainTrees) (a : ℕ) → adjacent_below cs a a ≡ false
  below_no_loop no_tree a = refl
  below_no_loop (one_more t ts) a =
      elim (cases_Bool (contains (names t) a)) [
        | inl h ↦ rw h (adjacent_no_loop t a)
        | inr l ↦ rw l (below_no_loop ts a)
      ]

pub some_graph : (t : PlainTree) → AllBelow (names t) NAMES → IsGraph (graph_of_tree (Some t))
some_graph t below = record {
  names = below;
  ordered = λ u v h. ltb-true u v (and_parts (nat_lt u v) (nat_lt v NAMES) (parts u v h).0).0;
  low_end = λ u v h. (and_parts (contains (names t) u) (contains (names t) v) (ends u v h)).0;
  high_end = λ u v h. (and_parts (contains (names t) u) (contains (names t) v) (ends u v h)).1;
}
  where
    parts : (u v : ℕ) → contains (pairs_where (joined_names t) NAMES) (u, v) ≡ true → ((nat_lt u v && nat_lt v NAMES) ≡ true) × (joined_names t u v ≡ true)
    parts u v h = and_parts (nat_lt u v && nat_lt v NAMES) (joined_names t u v) (sym (contains-pairs_where (joined_names t) NAMES u v) ∙ h)

    ends : (u v : ℕ) → contains (pairs_where (joined_names t) NAMES) (u, v) ≡ true → (contains (names t) u && contains (names t) v) ≡ true
    ends u v h = (and_parts (contains (names t) u && contains (names t) v) (adjacent_in t u v) (parts u v h).1).0

-- what a well-formed tree denotes is a graph
pub tree_denotes : (o : Option PlainTree) → IsWellFormed o → IsGraph (graph_of_tree o)
tree_denotes None is = IsGraph-empty_graph
tree_denotes (Some t) is = some_graph t is.0

module _ (t : PlainTree) (below : AllBelow (names t) NAMES) where
  up_tells : (a b : ℕ) → a < b → Has (names t) a → Has (names t) b → adjacent (graph_of_tree (Some t)) a b ≡ adjacent_in t a b
  up_tells a b up ha hb =
      adjacent_up (graph_of_tree (Some t)) a b up ∙ contains-pairs_where (joined_names t) NAMES a b
      ∙ (λ i. (lt-ltb a b up i && lt-ltb b NAMES (below b hb) i) && ((ha i && hb i) && adjacent_in t a b))

  -- names of a tree are adjacent in its graph as in the tree
  pub graph_tells : (a b : ℕ) → Has (names t) a → Has (names t) b → adjacent_in t a b ≡ adjacent (graph_of_tree (Some t)) a b
  graph_tells a b ha hb =
      elim (cases_order a b) [
        | inl same ↦
            ap (λ z. adjacent_in t a z) (sym same) ∙ adjacent_no_loop t a
            ∙ sym (ap (λ z. adjacent (graph_of_tree (Some t)) a z) (sym same) ∙ adjacent_self (some_graph t below) a)
        | inr (inl up) ↦ sym (up_tells a b up ha hb)
        | inr (inr down) ↦ adjacent_turned t a b ∙ sym (up_tells b a down hb ha) ∙ adjacent_sym (graph_of_tree (Some t)) b a
      ]
