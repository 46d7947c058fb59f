-- The graph that a tree denotes, from its edges; pairs of trees that a node lists.
use Rattle.std.proofs.Common.{◌≡◌, ℕ, ◌+◌, ◌-◌, ◌<◌, Bool, true, false, ◌&&◌, ◌||◌, List, length, get_or, drop, take, map, Contains, nat_lt, Option, Some, refl, sym, ◌∙◌, ap, subst, inl, inr, arith}
use Rattle.std.proofs.lemmas.List.{at_drop_more, length-drop}
use Rattle.std.proofs.lemmas.Bool.{lt-ltb, and_parts}
use Rattle.std.proofs.Math.Seq.{take-length}
use Rattle.std.specs.FinSet.{contains, empty, union}
use Rattle.md_graph.specs.declared.TheConstants.{NAMES}
use Rattle.md_graph.specs.NameSet.{AllBelow}
use Rattle.md_graph.specs.PlainGraph.{PlainGraph, IsGraph, adjacent, edge, pairs_where}
use Rattle.md_graph.proofs.GraphLemmas.{contains-pairs_where, contains-edges, adjacent-empty_graph, empty_without_vertices}
use Rattle.md_graph.proofs.PairLaws.{same_pairs}
use Rattle.md_graph.specs.Sets.{NameSet, Within}
use Rattle.md_graph.proofs.SetLemmas.{clash, empty_lacks, Has-along, same_members, union_right, of_union}
use Rattle.md_tree.specs.declared.Kind.{Kind}
use Rattle.md_tree.specs.declared.Pair.{Pair}
use Rattle.md_tree.specs.declared.TreeOf.{TreeOf}
use Rattle.md_tree.specs.Trees.{PlainTree, PlainTrees, names, names_below, names_at, count, row}
use Rattle.md_tree.specs.Plain.{plain, plain_option}
use Rattle.md_tree.specs.WellFormed.{IsCanonicalTree}
use Rattle.md_tree.specs.TreeGraph.{adjacent_in, graph_of_tree}
use Rattle.md_tree.specs.TreeEdges.{crosses, in_listed, has_edge_in}
use Rattle.md_text.proofs.Lists.{in_get, to_contains}
use Rattle.md_tree.proofs.Nodes.{at_inside}
use Rattle.md_tree.proofs.Edges.{edges_are}
use Rattle.md_tree.proofs.Loops.{or_moved, count_plain, names_at_row}

-- the children from a position on
pub later_items : (zs xs : List (TreeOf Kind Pair)) (from : ℕ) → zs ≡ xs → take (length zs - from) (drop from zs) ≡ drop from xs
later_items zs xs from same =
    ap (λ n. take n (drop from zs)) (sym (length-drop from zs)) ∙ take-length (drop from zs) ∙ ap (drop from) same

-- a pair that is listed, and its trees
listed_at : (zs qs : List Pair) (i : ℕ) (d : Pair) → zs ≡ qs → i < length zs → Contains qs (get_or zs i d)
listed_at zs qs i d same less = subst (λ l. Contains l (get_or zs i d)) same (to_contains zs (get_or zs i d) (in_get zs i d less))

pub at_listed : (xs : List (TreeOf Kind Pair)) (i : ℕ) (r : TreeOf Kind Pair) → r ≡ get_or xs i r → i < length xs → names_at (row (map plain xs)) i ≡ names (plain r)
at_listed xs i r is less = names_at_row xs i r less ∙ ap (λ q. names (plain q)) (sym is)

pub at_within : (cs : PlainTrees) (s : NameSet) → Within (names_below cs) s → (i : ℕ) (a : NameSet) → names_at cs i ≡ a → Within a s
at_within cs s w i a p x h = w x (at_inside cs i x (Has-along a (names_at cs i) (sym p) x h))

pub pair_step : (cs : PlainTrees) (zs qs : List Pair) (i : ℕ) (d : Pair) (start g h : PlainGraph) (a b : NameSet) → zs ≡ qs → i < length zs →
    names_at cs (get_or zs i d).low ≡ a → names_at cs (get_or zs i d).high ≡ b →
    ((x y : ℕ) → adjacent h x y ≡ (adjacent g x y || crosses a b x y)) →
    ((x y : ℕ) → (adjacent g x y || in_listed cs (drop i qs) x y) ≡ (adjacent start x y || in_listed cs qs x y)) →
    (x y : ℕ) → (adjacent h x y || in_listed cs (drop (i + 1) qs) x y) ≡ (adjacent start x y || in_listed cs qs x y)
pair_step cs zs qs i d start g h a b same less p q more before x y =
    or_moved (adjacent g x y) (adjacent h x y) (crosses a b x y) (in_listed cs (drop i qs) x y) (in_listed cs (drop (i + 1) qs) x y)
    (adjacent start x y || in_listed cs qs x y) (more x y) (before x y)
    (at_drop_more (λ l. in_listed cs l x y) qs i d (subst (λ l. i < length l) same less)
    ∙ ap (λ r. crosses (names_at cs r.low) (names_at cs r.high) x y || in_listed cs (drop (i + 1) qs) x y) (ap (λ l. get_or l i d) (sym same))
    ∙ ap (λ s. crosses s (names_at cs (get_or zs i d).high) x y || in_listed cs (drop (i + 1) qs) x y) p
    ∙ ap (λ s. crosses a s x y || in_listed cs (drop (i + 1) qs) x y) q)

within_limit : (a b t : Bool) → (t ≡ true → b ≡ true) → (a && t) ≡ ((a && b) && t)
within_limit false b t f = refl
within_limit true b true f = sym (ap (λ w. w && true) (f refl))
within_limit true true false f = refl
within_limit true false false f = refl

abbrev pub joined_names : PlainTree → ℕ → ℕ → Bool
joined_names t a b = (contains (names t) a && contains (names t) b) && adjacent_in t a b

pub tree_graph : (g : PlainGraph) (t : PlainTree) → IsGraph g → IsCanonicalTree t → AllBelow (names t) NAMES → g.vertices ≡ names t →
    ((x y : ℕ) → adjacent g x y ≡ has_edge_in t x y) → g ≡ graph_of_tree (Some t)
tree_graph g t is canonical below same edges n = record { vertices = same n; edges = same_edges n } where
  same_edges : g.edges ≡ pairs_where (joined_names t) NAMES
  same_edges = same_pairs g.edges (pairs_where (joined_names t) NAMES) (λ u v.
      contains-edges is u v ∙ ap (λ w. nat_lt u v && w) (edges u v ∙ edges_are t canonical u v)
      ∙ within_limit (nat_lt u v) (nat_lt v NAMES) (joined_names t u v)
      (λ h. lt-ltb v NAMES (below v (and_parts (contains (names t) u) (contains (names t) v)
      (and_parts (contains (names t) u && contains (names t) v) (adjacent_in t u v) h).0).1))
      ∙ sym (contains-pairs_where (joined_names t) NAMES u v))

-- a pair that is listed: its positions are those of two trees
pub record PairHere (xs : List (TreeOf Kind Pair)) (p : Pair) : Type 0 where
  pub ordered : p.low < p.high
  pub low : p.low < length xs
  pub high : p.high < length xs

pub pair_here : {xs : List (TreeOf Kind Pair)} {zs qs : List Pair} {i : ℕ} (d : Pair) →
    ((p : Pair) → Contains qs p → (p.low < p.high) × (p.high < count (row (map plain xs)))) → zs ≡ qs → i < length zs → PairHere xs (get_or zs i d)
pair_here {xs} {zs} {qs} {i} d positions same less =
    let p : Pair = get_or zs i d in
    let h : (p.low < p.high) × (p.high < count (row (map plain xs))) = positions p (listed_at zs qs i d same less) in
    let a : p.low < p.high = h.0 in
    let b : p.high < count (row (map plain xs)) = h.1 in
    let c : count (row (map plain xs)) ≡ length xs = count_plain xs in
    record { ordered = a; low = omega arith; high = omega arith }

union_empty_left : (s a : NameSet) → s ≡ empty → union s a ≡ a
union_empty_left s a none = same_members (union s a) a
    (λ x h. elim (of_union s a x h) [ inl i ↦ clash (Has-along s empty none x i) (empty_lacks x) | inr i ↦ i ]) (union_right s a)

-- what an empty graph becomes
pub filled_graph : (start named g : PlainGraph) (o : Option (TreeOf Kind Pair)) (t : TreeOf Kind Pair) → o ≡ Some t → IsGraph start → IsGraph g → start.vertices ≡ empty →
    (IsCanonicalTree (plain t)) → AllBelow (names (plain t)) NAMES →
    named.vertices ≡ union start.vertices (names (plain t)) → named.edges ≡ start.edges → g.vertices ≡ named.vertices →
    ((x y : ℕ) → adjacent g x y ≡ (adjacent named x y || has_edge_in (plain t) x y)) → g ≡ graph_of_tree (plain_option o)
unfolding adjacent
filled_graph start named g o t some is_start is none canonical below vertices edges kept more =
    tree_graph g (plain t) is canonical below (kept ∙ vertices ∙ union_empty_left start.vertices (names (plain t)) none)
    (λ x y. more x y ∙ ap (λ w. w || has_edge_in (plain t) x y)
    (ap (λ s. contains s (edge x y)) (edges ∙ ap (λ h. h.edges) (empty_without_vertices start is_start none)) ∙ adjacent-empty_graph x y))
    ∙ sym (ap (λ p. graph_of_tree (plain_option p)) some)
