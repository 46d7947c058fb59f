-- The loop's view of the graph that a tree denotes (TreeGraph is its meaning): its edges in the order in which the nodes are
-- gone through.
-- Source: Habib and Paul, A survey of the algorithmic aspects of modular decomposition.
use Rattle.std.specs.Prelude.{ℕ, Bool, false, ◌&&◌, ◌||◌, List, [], ◌∷◌}
use Rattle.std.specs.FinSet.{contains}
use Rattle.md_graph.specs.Sets.{NameSet}
use Rattle.md_tree.specs.declared.Kind.{Kind}
use Rattle.md_tree.specs.declared.Kind.TheVariants.{Parallel, Series, Prime}
use Rattle.md_tree.specs.declared.Pair.{Pair}
use Rattle.md_tree.specs.Trees.{PlainTree, leaf, node, PlainTrees, no_tree, one_more, names, names_below, names_at}

-- one of x and y is a name of a, and the other one of b
unfoldable pub crosses : NameSet → NameSet → ℕ → ℕ → Bool
crosses a b x y = (contains a x && contains b y) || (contains a y && contains b x)

-- x and y are names of different trees
abbrev pub in_two : PlainTrees → ℕ → ℕ → Bool
in_two no_tree x y = false
in_two (one_more t ts) x y = crosses (names t) (names_below ts) x y || in_two ts x y

-- x and y are names of two trees whose pair is listed
abbrev pub in_listed : PlainTrees → List Pair → ℕ → ℕ → Bool
in_listed cs [] x y = false
in_listed cs (p ∷ ps) x y = crosses (names_at cs p.low) (names_at cs p.high) x y || in_listed cs ps x y

-- an edge between different children of a node
abbrev pub edge_across : Kind → PlainTrees → List Pair → ℕ → ℕ → Bool
edge_across Parallel cs ps x y = false
edge_across Series cs ps x y = in_two cs x y
edge_across Prime cs ps x y = in_listed cs ps x y

abbrev mutual
  -- some node of the tree gives an edge between x and y
  pub has_edge_in : PlainTree → ℕ → ℕ → Bool
  has_edge_in (leaf v) x y = false
  has_edge_in (node k cs ps) x y = has_edge_below cs x y || edge_across k cs ps x y

  pub has_edge_below : PlainTrees → ℕ → ℕ → Bool
  has_edge_below no_tree x y = false
  has_edge_below (one_more t ts) x y = has_edge_in t x y || has_edge_below ts x y
