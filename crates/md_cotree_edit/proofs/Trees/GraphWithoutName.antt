-- The graph of a tree without a name, and how many names are joined to it.
use Rattle.std.proofs.Common.{◌≡◌, ◌≢◌, ℕ, ◌+◌, ◌-◌, ◌<◌, ◌≤◌, Bool, true, false, not, cond, ◌&&◌, ◌==◌, List, [], ◌∷◌, length, Option, Some, None, refl, sym, ◌∙◌, ap, subst, inl, inr, arith}
use Rattle.std.proofs.lemmas.Bool.{cases_lt, ne_eqb, false_from_ne_true}
use Rattle.std.specs.FinSet as set
use Rattle.std.specs.Option.{option_map}
use Rattle.md_graph.specs.declared.TheConstants.{NAMES}
use Rattle.md_graph.specs.Sets.{NameSet, Has}
use Rattle.md_graph.specs.PlainGraph.{PlainGraph, IsGraph, adjacent, neighbours, without_vertex}
use Rattle.md_graph.proofs.SetLaws.{len-remove}
use Rattle.md_graph.proofs.SetLemmas.{clash, empty_lacks, same_members, remove_left, of_remove}
use Rattle.md_graph.proofs.GraphLemmas.{same_graph, adjacent_ends, IsGraph-empty_graph, IsGraph-without_vertex, adjacent-without_vertex, contains-neighbours}
use Rattle.md_graph.specs.Linked.{times}
use Rattle.md_tree.specs.Trees.{names}
use Rattle.md_tree.specs.TreeGraph.{graph_of_tree}
use Rattle.md_cotree.specs.PlaceTrees.{PlaceTree, no_more, then, leaf_count, shape}
use Rattle.md_cotree.specs.Cotrees.{root_row}
use Rattle.md_cotree.proofs.Frames.{hit, miss}
use Rattle.md_cotree.proofs.TreeGraphs.{some_graph}
use Rattle.md_cotree_edit.specs.Counts.{name_in, name_row, edge_in, edge_row}
use Rattle.md_cotree_edit.specs.Deletions.{HasFew}
use Rattle.md_cotree_edit.proofs.Trees.LocalCounts.{edge_none, edge_turned}
use Rattle.md_cotree_edit.proofs.Trees.AdjacencyByCounts.{counted_has, has_counted, AreNamed, graph_in, told_graph, same_value}
use Rattle.md_cotree_edit.proofs.Trees.KeptNames.{names_list, lists_times, lists_long}
use Rattle.md_graph.proofs.Search.{some_len}

-- ---- graphs

-- two graphs on the same vertices are the same where pairs of vertices are joined alike
graph_by_vertices : (g h : PlainGraph) → IsGraph g → IsGraph h → g.vertices ≡ h.vertices → ((a b : ℕ) → Has g.vertices a → Has g.vertices b → adjacent g a b ≡ adjacent h a b) → g ≡ h
graph_by_vertices g h is_g is_h vertices pairs = same_graph is_g is_h vertices (λ a b. go a b (set.contains g.vertices a) (set.contains g.vertices b) refl refl)
  where
    off_g : (a b : ℕ) → (Has g.vertices a → Has g.vertices b → ⊥) → adjacent g a b ≡ false
    off_g a b not_both = false_from_ne_true _ (λ j. let ends = adjacent_ends is_g a b j in not_both ends.0 ends.1)

    off_h : (a b : ℕ) → (Has g.vertices a → Has g.vertices b → ⊥) → adjacent h a b ≡ false
    off_h a b not_both = false_from_ne_true _ (λ j.
        let ends = adjacent_ends is_h a b j in
        not_both (subst (λ z. Has z a) (sym vertices) ends.0) (subst (λ z. Has z b) (sym vertices) ends.1))

    go : (a b : ℕ) (p q : Bool) → set.contains g.vertices a ≡ p → set.contains g.vertices b ≡ q → adjacent g a b ≡ adjacent h a b
    go a b true true ha hb = pairs a b ha hb
    go a b false q ha hb = off_g a b (λ i j. clash i ha) ∙ sym (off_h a b (λ i j. clash i ha))
    go a b true false ha hb = off_g a b (λ i j. clash j hb) ∙ sym (off_h a b (λ i j. clash j hb))

-- what the graph of a tree, or of none, tells by counts
record IsCounted (o : Option PlaceTree) : Type 0 where
  graph : IsGraph (graph_of_tree (option_map shape o))
  has : (v : ℕ) → Has (graph_of_tree (option_map shape o)).vertices v → 0 < name_row v (root_row o)
  there : (v : ℕ) → 0 < name_row v (root_row o) → Has (graph_of_tree (option_map shape o)).vertices v
  told : (a b : ℕ) → 0 < name_row a (root_row o) → 0 < name_row b (root_row o) →
      edge_row a b (root_row o) ≡ cond (adjacent (graph_of_tree (option_map shape o)) a b) 1 0

counted : (o : Option PlaceTree) → ((v : ℕ) → name_row v (root_row o) ≤ 1) → ((v : ℕ) → 0 < name_row v (root_row o) → v < NAMES) → IsCounted o
counted None once low = record {
  graph = IsGraph-empty_graph;
  has = λ v h. clash h (empty_lacks v);
  there = λ v some. absurd (omega arith);
  told = λ a b ha hb. absurd (omega arith);
}
counted (Some s) once low =
    let is : AreNamed s = record {
      once = λ v. (let o = once v in omega arith);
      low = λ v h. low v (let some = has_counted s v h in omega arith);
    } in
    record {
      graph = some_graph (shape s) is.low;
      has = λ v h. let some = has_counted s v h in omega arith;
      there = λ v some. counted_has s v (omega arith);
      told = λ a b ha hb. let e = told_graph s is a b (omega arith) (omega arith) in omega arith;
    }

and_both : (a b c : Bool) → b ≡ false → c ≡ false → (a && (not b && not c)) ≡ a
and_both true b c eb ec = λ i. not (eb i) && not (ec i)
and_both false b c eb ec = refl

module _ (t : PlaceTree) (is : AreNamed t) (x : ℕ) (o : Option PlaceTree) (named : (v : ℕ) → name_row v (root_row o) + cond (x == v) 1 0 ≡ name_in v t)
    (edges : (a b : ℕ) → x ≢ a → x ≢ b → edge_row a b (root_row o) ≡ edge_in a b t) where
  abbrev left : PlainGraph
  left = graph_of_tree (option_map shape o)

  is_counted : IsCounted o
  is_counted = counted o (λ v. (let e = named v in let f = is.once v in omega arith)) (λ v some. is.low v (counted_has t v (let e = named v in omega arith)))

  not_x : (v : ℕ) → 0 < name_row v (root_row o) → x ≢ v
  not_x v some same = let h = hit x v same in let e = named v in let f = is.once v in omega arith

  left_vertices : left.vertices ≡ set.remove (names (shape t)) x
  left_vertices =
      same_members left.vertices (set.remove (names (shape t)) x)
      (λ v h. let some = is_counted.has v h in remove_left (names (shape t)) x v (λ e. not_x v some (sym e)) (counted_has t v (let e = named v in omega arith)))
      (λ v h.
      let both = of_remove (names (shape t)) x v h in
      let m = miss x v (λ e. both.0 (sym e)) in
      is_counted.there v (let some = has_counted t v both.1 in let e = named v in omega arith))

  pub graph_without : left ≡ without_vertex (graph_in t) x
  graph_without =
      graph_by_vertices left (without_vertex (graph_in t) x) is_counted.graph (IsGraph-without_vertex (some_graph (shape t) is.low) x) left_vertices (λ a b ha hb.
      let some_a = is_counted.has a ha in
      let some_b = is_counted.has b hb in
      let na = not_x a some_a in
      let nb = not_x b some_b in
      let e = told_graph t is a b (let e = named a in omega arith) (let e = named b in omega arith) in
      same_value (adjacent left a b) (adjacent (graph_in t) a b) (sym (is_counted.told a b some_a some_b) ∙ edges a b na nb ∙ e)
      ∙ sym (adjacent-without_vertex (graph_in t) x a b
      ∙ and_both (adjacent (graph_in t) a b) (a == x) (b == x) (ne_eqb a x (λ e. na (sym e))) (ne_eqb b x (λ e. nb (sym e)))))

-- ---- names that are joined to a name

-- names of a set, each once, are no more than it has
listed_few : (xs : List ℕ) (s : NameSet) → ((v : ℕ) → times v xs ≤ 1) → ((v : ℕ) → 0 < times v xs → Has s v) → length xs ≤ set.len s
listed_few [] s once has = omega arith
listed_few (x ∷ xs) s once has =
    let h = hit x x refl in
    let here : Has s x = has x (omega arith) in
    let less = len-remove s x ∙ ap (λ b. cond b (set.len s - 1) (set.len s)) here in
    let some = some_len s x here in
    let rest = listed_few xs (set.remove s x) (λ v. (let o = once v in omega arith)) (λ v more.
    remove_left s x v (λ same. (let h = hit x v (sym same) in let o = once v in omega arith)) (has v (omega arith))) in
    omega arith

-- a tree has no more leaves than names
pub leaves_few : (t : PlaceTree) → AreNamed t → leaf_count t ≤ set.len (names (shape t))
leaves_few t is =
    let e = lists_long (then t no_more) in
    let f = listed_few (names_list (then t no_more)) (names (shape t)) (λ v. (let o = is.once v in let e = lists_times v (then t no_more) in omega arith))
    (λ v some. counted_has t v (let e = lists_times v (then t no_more) in omega arith)) in
    omega arith

yes_of : (b : Bool) → ◌<◌ 0 (cond b 1 0) → b ≡ true
yes_of true some = refl
yes_of false some = absurd (omega arith)

module _ (t : PlaceTree) (is : AreNamed t) (x : ℕ) (has : 0 < name_in x t) where
  joined_has : (v : ℕ) → 0 < edge_in x v t → Has (neighbours (graph_in t) x) v
  joined_has v some =
      elim (cases_lt 0 (name_in v t)) [
        | inl there ↦
            let e = told_graph t is x v has there in
            contains-neighbours (some_graph (shape t) is.low) x v ∙ yes_of (adjacent (graph_in t) x v) (omega arith)
        | inr none ↦ absurd (let e = edge_turned x v t in let f = edge_none v x t (omega arith) in omega arith)
      ]

  pub has_few : HasFew (set.len (neighbours (graph_in t) x)) x t
  has_few = record {
    few = λ zs once joined.
        let e = lists_long zs in
        let f = listed_few (names_list zs) (neighbours (graph_in t) x) (λ v. (let o = once v in let e = lists_times v zs in omega arith))
        (λ v some. joined_has v (joined v (let e = lists_times v zs in omega arith))) in
        omega arith;
  }
