-- The rows of a graph tell the pairs of each node of its tree, at the heads of the children.
use Rattle.std.proofs.Common.{◌≡◌, ℕ, zero, suc, ◌+◌, ◌<◌, ◌≤◌, Bool, true, List, length, get_or, Contains, refl, sym, ◌∙◌, ap, ap₂, subst, inl, inr, lt-ltb, ltb-true, nat_lt, arith}
use Rattle.std.specs.Prelude.{◌↔◌}
use Rattle.std.proofs.lemmas.Bool.{and_parts, and_from, cases_lt}
use Rattle.std.specs.FinSet.{contains, intersection}
use Rattle.md_graph.specs.Adjacency.{IsAdjacency}
use Rattle.md_graph.specs.PlainGraph.{PlainGraph, IsGraph, adjacent, neighbours}
use Rattle.md_graph.specs.Sets.{NameSet, Has, Within}
use Rattle.md_graph.proofs.GraphLemmas.{adjacent_ends, contains-neighbours}
use Rattle.md_graph.proofs.SetLemmas.{union_left, union_right, same_members, meet_has, of_meet}
use Rattle.md_modules.proofs.Modules.{undirected}
use Rattle.md_modules.proofs.Turns.{graph_adjacency}
use Rattle.md_text.proofs.Lists.{In, of_contains, to_contains, to_pairs}
use Rattle.md_tree.specs.declared.Kind.{Kind}
use Rattle.md_tree.specs.declared.Kind.TheVariants.{Parallel, Series, Prime}
use Rattle.md_tree.specs.declared.Pair.{Pair}
use Rattle.md_tree.specs.Heads.{head, head_at, AreChildModules}
use Rattle.md_tree.specs.Held.{Ascends}
use Rattle.md_tree.specs.Spellings.{graph_pairs, IsPairBeforeBy}
use Rattle.md_tree.specs.StrongTrees.{IsInOrder, AreTreesJoined, ListsJoined, HasPairs, IsTreeOf}
use Rattle.md_tree.specs.Trees.{PlainTree, leaf, node, PlainTrees, no_tree, one_more, names, names_below, count, EachNode, EachNodeBelow}
use Rattle.md_tree.specs.WellFormed.{IsCanonicalNode}
use Rattle.md_tree.proofs.Built.{IsBuilt, tree_names, tree_built, children_maximal}
use Rattle.md_tree.proofs.Canonical.{canonical_of}
use Rattle.md_tree.proofs.Fitted.{at_places, modules_below}
use Rattle.md_tree.proofs.Heads.{heads_in}
use Rattle.md_tree.proofs.Nodes.{position_below}
use Rattle.md_tree.proofs.Pairs.{one_list}
use Rattle.md_tree.proofs.Spelled.{graph_pairs_law}
use Rattle.md_outline.specs.HeadPairs.{head_pairs}
use Rattle.md_outline.specs.NodeRows.{is_edge_up, head_list, pairs_by_rows, IsNodeByRows}
use Rattle.md_outline.proofs.Heads.{some_child, tree_head, head_least}
use Rattle.md_outline.proofs.HeadPairs.{ascend_two, pairs_later, pairs_within, listed_in, in_listed}

-- ---- edges to later names

-- an edge to a later name
pub edge_up : (e : ℕ → ℕ → Bool) (v w : ℕ) → (is_edge_up e v w ≡ true) ↔ ((e v w ≡ true) × (v < w))
edge_up e v w = (
  λ t. let two = and_parts (e v w) (nat_lt v w) t in (two.0, ltb-true v w two.1),
  λ t. and_from (e v w) (nat_lt v w) t.0 (lt-ltb v w t.1),
)

-- the row of a vertex, from the next name on
pub edges_ahead : {g : PlainGraph} → IsGraph g → (v : ℕ) (row : NameSet) → row ≡ neighbours g v → (y : ℕ) → (is_edge_up (adjacent g) v y ≡ true) ↔ (Has row y × (v + 1 ≤ y))
edges_ahead {g} graph v row is y =
    let told : contains row y ≡ adjacent g v y = ap (λ s. contains s y) is ∙ contains-neighbours graph v y in (
      λ t. let two = (edge_up (adjacent g) v y).0 t in (told ∙ two.0, (let a = two.1 in omega arith)),
      λ t. (edge_up (adjacent g) v y).1 (sym told ∙ t.0, (let a : v + 1 ≤ y = t.1 in omega arith)),
    )

-- where all vertices are in a set, so are all neighbours
pub all_near : {g : PlainGraph} → IsGraph g → (v : ℕ) (all : NameSet) → Within g.vertices all → intersection (neighbours g v) all ≡ neighbours g v
all_near {g} graph v all inside = same_members _ _
    (λ q h. (of_meet (neighbours g v) all q h).0)
    (λ q h. meet_has (neighbours g v) all q h (inside q (adjacent_ends graph v q (sym (contains-neighbours graph v q) ∙ h)).1))

-- of ascending names the lower one stands first
pub stands_first : (list : List ℕ) → Ascends list → (i j : ℕ) → i < length list → j < length list → get_or list i 0 < get_or list j 0 → i < j
stands_first list up i j bi bj less = elim (cases_lt i j) [
  | inl first ↦ first
  | inr over ↦ elim (cases_lt j i) [
    | inl other ↦ (let a = ascend_two list up j i other bi in absurd (omega arith))
    | inr same ↦ (let e : i ≡ j = omega arith in let a : get_or list j 0 < get_or list j 0 = subst (λ k. get_or list k 0 < get_or list j 0) e less in absurd (omega arith))
  ]
]

-- ---- the list of the heads

pub count_heads : (cs : PlainTrees) → length (head_list cs) ≡ count cs
count_heads no_tree = refl
count_heads (one_more t ts) = ap suc (count_heads ts)

heads_at : (cs : PlainTrees) (i : ℕ) → i < count cs → get_or (head_list cs) i 0 ≡ head_at cs i
heads_at no_tree i below = let b : i < 0 = below in absurd (omega arith)
heads_at (one_more t ts) zero below = refl
heads_at (one_more t ts) (suc i) below = let b : suc i < suc (count ts) = below in heads_at ts i (omega arith)

head_members : (cs : PlainTrees) → EachNodeBelow IsCanonicalNode cs → (i : ℕ) → i < length (head_list cs) → Has (names_below cs) (get_or (head_list cs) i 0)
head_members no_tree each i below = let b : i < 0 = below in absurd (omega arith)
head_members (one_more t ts) each zero below = union_left (names t) (names_below ts) (head t) (tree_head t each.0)
head_members (one_more t ts) each (suc i) below =
    let b : suc i < suc (length (head_list ts)) = below in
    union_right (names t) (names_below ts) (get_or (head_list ts) i 0) (head_members ts each.1 i (omega arith))

heads_ascend : (cs : PlainTrees) → IsInOrder cs → EachNodeBelow IsCanonicalNode cs → Ascends (head_list cs)
heads_ascend no_tree order each k below = let b : suc k < 0 = below in absurd (omega arith)
heads_ascend (one_more t no_tree) order each k below = let b : suc k < 1 = below in absurd (omega arith)
heads_ascend (one_more t (one_more u us)) order each zero below =
    let low : head t ≤ order.0.0 = head_least t each.0 order.0.0 order.0.1 in
    let less : order.0.0 < head u = order.0.2 (head u) (union_left (names u) (names_below us) (head u) (tree_head u each.1.0)) in
    let all : head t < head u = omega arith in
    all
heads_ascend (one_more t (one_more u us)) order each (suc k) below =
    let b : suc (suc k) < suc (length (head_list (one_more u us))) = below in
    heads_ascend (one_more u us) order.1 each.1 k (omega arith)

-- ---- the pairs of a prime node

module _ {e : ℕ → ℕ → Bool} (adj : IsAdjacency e) (cs : PlainTrees) (mods : AreChildModules e cs) (up : Ascends (head_list cs)) where
  abbrev listed : List Pair
  listed = head_pairs graph_pairs (is_edge_up e) (head_list cs)

  joined_of : (p : Pair) → Contains listed p → AreTreesJoined e cs p.low p.high
  joined_of p c =
      let i : In listed p = of_contains listed p c in
      let size : length (head_list cs) ≡ count cs = count_heads cs in
      let t : (0 ≤ p.low) × (p.low < 0 + length (head_list cs)) × (p.high < length (head_list cs)) = pairs_within graph_pairs_law (is_edge_up e) (head_list cs) 0 (head_list cs) p i in
      let a : p.low < 0 + length (head_list cs) = t.1 in
      let low : p.low < length (head_list cs) = omega arith in
      let high : p.high < length (head_list cs) = t.2 in
      let low_count : p.low < count cs = omega arith in
      let high_count : p.high < count cs = omega arith in
      let edge = (edge_up e (get_or (head_list cs) p.low 0) (get_or (head_list cs) p.high 0)).0 (in_listed graph_pairs_law (is_edge_up e) (head_list cs) p.low p.high i) in
      record {
        ordered = stands_first (head_list cs) up p.low p.high low high edge.1;
        edge = (
          head_at cs p.low,
          head_at cs p.high,
          mods.heads p.low low_count,
          mods.heads p.high high_count,
          ap₂ e (sym (heads_at cs p.low low_count)) (sym (heads_at cs p.high high_count)) ∙ edge.0,
        );
      }

  listed_of : (p : Pair) → AreTreesJoined e cs p.low p.high → Contains listed p
  listed_of p is =
      let size : length (head_list cs) ≡ count cs = count_heads cs in
      let ordered : p.low < p.high = is.ordered in
      let high_count : p.high < count cs = position_below cs p.high is.edge.1 is.edge.3 in
      let high : p.high < length (head_list cs) = omega arith in
      let joined : e (get_or (head_list cs) p.low 0) (get_or (head_list cs) p.high 0) ≡ true =
      ap₂ e (heads_at cs p.low (omega arith)) (heads_at cs p.high high_count)
      ∙ sym (at_places (undirected adj) cs mods p.low p.high is.edge.0 is.edge.1 is.ordered is.edge.2 is.edge.3) ∙ is.edge.4 in
      to_contains listed p
      (listed_in graph_pairs_law (is_edge_up e) (head_list cs) p.low p.high (omega arith) high
      ((edge_up e (get_or (head_list cs) p.low 0) (get_or (head_list cs) p.high 0)).1 (joined, ascend_two (head_list cs) up p.low p.high ordered high)))

  prime_pairs : (ps : List Pair) → ListsJoined e cs ps → ps ≡ listed
  prime_pairs ps lists = one_list graph_pairs ps listed lists (record {
    ascending = to_pairs (IsPairBeforeBy graph_pairs) listed (pairs_later graph_pairs_law (is_edge_up e) (head_list cs) 0 (head_list cs));
    exactly = λ p. (joined_of p, listed_of p);
  })

  pairs_told : (k : Kind) (ps : List Pair) → HasPairs e k cs ps → ps ≡ pairs_by_rows e k (head_list cs)
  pairs_told Parallel ps none = none
  pairs_told Series ps none = none
  pairs_told Prime ps lists = prime_pairs ps lists

-- ---- each node of a tree

module _ {e : ℕ → ℕ → Bool} (adj : IsAdjacency e) (s : NameSet) where
  node_told : (k : Kind) (cs : PlainTrees) (ps : List Pair) → IsBuilt e k cs ps → IsCanonicalNode k cs ps → EachNodeBelow IsCanonicalNode cs → Within (names_below cs) s → IsNodeByRows e s k cs ps
  node_told k cs ps built canon each inside =
      let up : Ascends (head_list cs) = heads_ascend cs canon.order each in
      let mods : AreChildModules e cs =
      modules_below (names_below cs) cs canon.apart (heads_in IsCanonicalNode some_child cs each) (λ x h. h) (λ c i. (children_maximal k cs ps built c i).is_strong.is_module) in
      record {
        heads = record {
          some = (let a : 1 ≤ count cs = some_child k cs ps canon in let b : length (head_list cs) ≡ count cs = count_heads cs in omega arith);
          members = λ i below. inside (get_or (head_list cs) i 0) (head_members cs each i below);
          order = up;
        };
        pairs = pairs_told adj cs mods up k ps built.node_of.pairs;
      }

  mutual
    tree_told : (t : PlainTree) → EachNode (IsBuilt e) t → EachNode IsCanonicalNode t → Within (names t) s → EachNode (IsNodeByRows e s) t
    tree_told (leaf v) built each inside = tt
    tree_told (node k cs ps) built each inside = (node_told k cs ps built.0 each.0 each.1 inside, row_told cs built.1 each.1 inside)

    row_told : (ts : PlainTrees) → EachNodeBelow (IsBuilt e) ts → EachNodeBelow IsCanonicalNode ts → Within (names_below ts) s → EachNodeBelow (IsNodeByRows e s) ts
    row_told no_tree built each inside = tt
    row_told (one_more t ts) built each inside = (
      tree_told t built.0 each.0 (λ x h. inside x (union_left (names t) (names_below ts) x h)),
      row_told ts built.1 each.1 (λ x h. inside x (union_right (names t) (names_below ts) x h)),
    )

pub rows_tell : {g : PlainGraph} → IsGraph g → (t : PlainTree) → IsTreeOf (adjacent g) g.vertices t → EachNode (IsNodeByRows (adjacent g) g.vertices) t
rows_tell {g} graph t is =
    let adj : IsAdjacency (adjacent g) = graph_adjacency graph in
    let built : EachNode (IsBuilt (adjacent g)) t = tree_built g.vertices t is in
    tree_told adj g.vertices t built (canonical_of (adjacent g) adj t built) (λ x h. subst (λ m. Has m x) (tree_names g.vertices t is) h)
