-- The number of nodes of the tree of strong modules: the tree that a cotree keeps, put in order, has as many.
use Rattle.std.proofs.Common.{◌≡◌, ℕ, zero, suc, ◌≤◌, List, [], ◌∷◌, length, map, All, Option, Some, None, IsPermutation, refl, sym, ◌∙◌, ap, subst, inl, inr, arith, length-append, sum_by}
use Rattle.std.proofs.lemmas.Bool.{cases_lt}
use Rattle.std.proofs.lemmas.List.Elements.{All-cons}
use Rattle.std.proofs.lemmas.List.Sums.{sum_by-cons}
use Rattle.std.proofs.lemmas.List.Sorted.{sum_by-IsPermutation, IsPermutation-refl, IsPermutation-trans, IsPermutation-cons, IsPermutation-middle, All-permutation, IsNonDecreasingBy-short, IsNonDecreasingBy-drop}
use Rattle.std.specs.List.Sorted.{IsNonDecreasingBy}
use Rattle.std.specs.Option.{option_map}
use Rattle.md_graph.specs.PlainGraph.{PlainGraph, IsGraph, adjacent}
use Rattle.md_graph.proofs.SetLemmas.{Has-along}
use Rattle.md_modules.proofs.Turns.{graph_adjacency}
use Rattle.md_tree.specs.declared.Kind.{Kind}
use Rattle.md_tree.specs.declared.Pair.{Pair}
use Rattle.md_tree.specs.Trees.{PlainTree, leaf, node, PlainTrees, no_tree, one_more, names, node_sets, node_sets_below, nodes_in, row, EachNodeBelow}
use Rattle.md_tree.specs.Parts.{listed}
use Rattle.md_tree.specs.StrongTrees.{IsTreeOf, IsTree}
use Rattle.md_tree.specs.TreeGraph.{graph_of_tree}
use Rattle.md_tree.proofs.Folding.{row_listed}
use Rattle.md_tree.proofs.OneTree.{one_tree_proof}
use Rattle.md_cotree.specs.declared.cotree.Cotree.{Cotree}
use Rattle.md_cotree.specs.Cotrees.{root_row, IsKeptAs}
use Rattle.md_cotree.specs.PlaceTrees.{PlaceTree, tip, inner, PlaceTrees, no_more, then, node_count, node_counts, shape, shapes}
use Rattle.md_cotree.specs.Orders.{IsLooseNode, IsLoose, PlainKeyed, tree_of, key_of, first_key}
use Rattle.md_cotree.proofs.Arranging.{IsArranged, AllArranged, leaf_arranged, node_arranged}
use Rattle.md_cotree.proofs.Cographs.{tree_of_canonical}
use Rattle.md_cotree.proofs.NoPaths.{kept_below, cotree_graph}
use Rattle.md_cotree.proofs.Telling.{loose_kept}
use Rattle.md_cotree.proofs.TreeGraphs.{graph_tells}

-- ---- keyed trees in order

rising_cons : (z : PlainKeyed) (ys : List PlainKeyed) → All (λ y. key_of z ≤ key_of y) ys → IsNonDecreasingBy key_of ys → IsNonDecreasingBy key_of (z ∷ ys)
rising_cons z ys above up zero zero d le lt = omega arith
rising_cons z ys above up zero (suc j) d le lt = above j d (omega arith)
rising_cons z ys above up (suc i) zero d le lt = absurd (omega arith)
rising_cons z ys above up (suc i) (suc j) d le lt = up i j d (omega arith) (omega arith)

-- a list in order that has the same trees
abbrev InOrder : List PlainKeyed → Type 0
InOrder zs = (ys : List PlainKeyed) × IsPermutation zs ys × IsNonDecreasingBy key_of ys

above_first : (y : PlainKeyed) (ys : List PlainKeyed) → IsNonDecreasingBy key_of (y ∷ ys) → All (λ x. key_of y ≤ key_of x) ys
above_first y ys up k d lt = up 0 (suc k) d (omega arith) (omega arith)

above_less : (z y : PlainKeyed) (ys : List PlainKeyed) → key_of z ≤ key_of y → All (λ x. key_of y ≤ key_of x) ys → All (λ x. key_of z ≤ key_of x) ys
above_less z y ys less above k d lt = let high = above k d lt in omega arith

placed : (z : PlainKeyed) (ys : List PlainKeyed) → IsNonDecreasingBy key_of ys → InOrder (z ∷ ys)
placed z [] up = (z ∷ [], IsPermutation-refl (z ∷ []), IsNonDecreasingBy-short key_of (z ∷ []) (omega arith))
placed z (y ∷ ys) up =
    elim (cases_lt (key_of y) (key_of z)) [
      | inl more ↦
          let rest = placed z ys (IsNonDecreasingBy-drop key_of 1 (y ∷ ys) up) in (
            y ∷ rest.0,
            IsPermutation-trans _ _ _ (IsPermutation-middle (z ∷ []) y ys) (IsPermutation-cons y _ _ rest.1),
            rising_cons y rest.0 (All-permutation (λ x. key_of y ≤ key_of x) (z ∷ ys) rest.0 rest.1 (All-cons (λ x. key_of y ≤ key_of x) z ys (omega arith) (above_first y ys up))) rest.2,
          )
      | inr less ↦ (
        z ∷ y ∷ ys,
        IsPermutation-refl (z ∷ y ∷ ys),
        rising_cons z (y ∷ ys) (All-cons (λ x. key_of z ≤ key_of x) y ys less (above_less z y ys less (above_first y ys up))) up,
      )
    ]

in_order : (zs : List PlainKeyed) → InOrder zs
in_order [] = ([], IsPermutation-refl [], IsNonDecreasingBy-short key_of [] (omega arith))
in_order (z ∷ zs) =
    let rest = in_order zs in
    let all = placed z rest.0 rest.2 in
    (all.0, IsPermutation-trans _ _ _ (IsPermutation-cons z _ _ rest.1) all.1, all.2)

-- ---- a tree in order has as many nodes

abbrev nodes_at : PlainKeyed → ℕ
nodes_at z = length (node_sets z.tree)

row_nodes : (ys : List PlainKeyed) → length (node_sets_below (row (map tree_of ys))) ≡ sum_by nodes_at ys
row_nodes [] = refl
row_nodes (y ∷ ys) =
    let rest = row_nodes ys in
    let both = length-append (node_sets y.tree) (node_sets_below (row (map tree_of ys))) in
    let sum = sum_by-cons nodes_at y ys in
    omega arith

-- the tree in order, keyed, with as many nodes
record IsCounted (s : PlainTree) : Type 0 where
  keyed : PlainKeyed
  arranged : IsArranged keyed s
  nodes : nodes_at keyed ≡ length (node_sets s)

record AreCounted (cs : PlainTrees) : Type 0 where
  keyed : List PlainKeyed
  arranged : AllArranged keyed (listed cs)
  nodes : sum_by nodes_at keyed ≡ length (node_sets_below cs)

over_row : (k : Kind) (ss : List PlainTree) (ps : List Pair) → IsLooseNode k (row ss) ps → (zs : List PlainKeyed) → AllArranged zs ss → sum_by nodes_at zs ≡ length (node_sets_below (row ss)) → ps ≡ [] → IsCounted (node k (row ss) [])
over_row k ss ps loose zs all sum none =
    let ordered = in_order zs in
    record {
      keyed = record { least = first_key ordered.0; tree = node k (row (map tree_of ordered.0)) [] };
      arranged = node_arranged k ss (subst (λ l. IsLooseNode k (row ss) l) none loose) zs ordered.0 all ordered.1 ordered.2;
      nodes =
          let made = row_nodes ordered.0 in
          let same = sum_by-IsPermutation nodes_at zs ordered.0 ordered.1 in
          omega arith;
    }

mutual
  counted : (s : PlainTree) → IsLoose s → IsCounted s
  counted (leaf v) loose = record { keyed = record { least = v; tree = leaf v }; arranged = leaf_arranged v; nodes = refl }
  counted (node k cs ps) loose =
      let below = counted_below cs loose.1 in
      let same = row_listed cs in
      let none = loose.0.plain.no_pairs in
      subst (λ l. IsCounted (node k cs l)) (sym none) (subst (λ ds. IsCounted (node k ds [])) same
      (over_row k (listed cs) ps (subst (λ ds. IsLooseNode k ds ps) (sym same) loose.0) below.keyed below.arranged
      (below.nodes ∙ ap (λ ds. length (node_sets_below ds)) (sym same)) none))

  counted_below : (cs : PlainTrees) → EachNodeBelow IsLooseNode cs → AreCounted cs
  counted_below no_tree loose = record { keyed = []; arranged = tt; nodes = refl }
  counted_below (one_more t ts) loose =
      let first = counted t loose.0 in
      let rest = counted_below ts loose.1 in
      record {
        keyed = first.keyed ∷ rest.keyed;
        arranged = (first.arranged, rest.arranged);
        nodes =
            let sum = sum_by-cons nodes_at first.keyed rest.keyed in
            let both = length-append (node_sets t) (node_sets_below ts) in
            let a = first.nodes in
            let b = rest.nodes in
            omega arith;
      }

-- ---- the tree over places has a place for each node

mutual
  place_nodes : (t : PlaceTree) → node_count t ≡ length (node_sets (shape t))
  place_nodes (tip p v) = refl
  place_nodes (inner p k ts) = let rest = places_nodes ts in omega arith

  places_nodes : (ts : PlaceTrees) → node_counts ts ≡ length (node_sets_below (shapes ts))
  places_nodes no_more = refl
  places_nodes (then t ts) =
      let first = place_nodes t in
      let rest = places_nodes ts in
      let both = length-append (node_sets (shape t)) (node_sets_below (shapes ts)) in
      omega arith

-- ---- the tree of the graph

module _ (c : Cotree) (g : PlainGraph) where
  one_of : IsGraph g → (o p : Option PlainTree) → IsTree (adjacent g) g.vertices o → IsTree (adjacent g) g.vertices p → o ≡ p
  one_of is o p a b = let all = one_tree_proof (adjacent g) (graph_adjacency is) g.vertices in all.2 o a ∙ sym (all.2 p b)

  tree_made : (s : PlaceTree) → IsKeptAs c (Some s) → graph_of_tree (Some (shape s)) ≡ g → (made : IsCounted (shape s)) → IsTreeOf (adjacent g) g.vertices made.keyed.tree
  tree_made s kept same made =
      let t = made.keyed.tree in
      let o = made.arranged.ordered in
      let h = graph_of_tree (Some (shape s)) in
      let is : IsGraph h = cotree_graph c h (Some s, kept, refl) in
      subst (λ k. IsTreeOf (adjacent k) k.vertices t) same
      (subst (λ n. IsTreeOf (adjacent h) n t) o.same_names
      (tree_of_canonical (adjacent h) (graph_adjacency is) t o.canonical o.no_prime (λ a b ha hb.
      let ka = Has-along (names t) (names (shape s)) o.same_names a ha in
      let kb = Has-along (names t) (names (shape s)) o.same_names b hb in
      o.same_adjacent a b ka kb ∙ graph_tells (shape s) (kept_below c s kept) a b ka kb)))

  pub nodes_told : IsGraph g → (o : Option PlaceTree) → IsKeptAs c o → graph_of_tree (option_map shape o) ≡ g → (p : Option PlainTree) → IsTree (adjacent g) g.vertices p → node_counts (root_row o) ≡ nodes_in p
  nodes_told is None kept same p tree = ap nodes_in (one_of is None p (subst (λ k. IsTree (adjacent k) k.vertices None) same refl) tree)
  nodes_told is (Some s) kept same p tree =
      let made = counted (shape s) (loose_kept c s kept) in
      let one = ap nodes_in (one_of is (Some made.keyed.tree) p (tree_made s kept same made) tree) in
      let a = made.nodes in
      let b = place_nodes s in
      omega arith
