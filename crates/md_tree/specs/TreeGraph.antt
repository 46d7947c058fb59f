-- The graph that a tree denotes.
-- Source: Habib and Paul, A survey of the algorithmic aspects of modular decomposition.
use Rattle.std.specs.Prelude.{ℕ, suc, Bool, true, false, ◌&&◌, ◌||◌, nat_eq, min, max, cond, List, [], ◌∷◌, Option, Some, None}
use Rattle.std.specs.FinSet.{contains}
use Rattle.md_graph.specs.declared.TheConstants.{NAMES}
use Rattle.md_graph.specs.PlainGraph.{PlainGraph, pairs_where, empty_graph}
use Rattle.md_tree.specs.declared.Kind.{Kind}
use Rattle.md_tree.specs.declared.Kind.TheVariants.{Parallel, Series, Prime}
use Rattle.md_tree.specs.declared.Pair.{Pair}
use Rattle.md_tree.specs.Trees.{PlainTreesOf, PlainTree, leaf, node, PlainTrees, no_tree, one_more, names}

-- the position of the tree that holds a name; past the end where none does
abbrev pub position_of : {K P : Type 0} → PlainTreesOf K P → ℕ → ℕ
position_of no_tree a = 0
position_of (one_more t ts) a = cond (contains (names t) a) 0 (suc (position_of ts a))

-- whether the list has the pair (i, j)
abbrev pub lists_pair : List Pair → ℕ → ℕ → Bool
lists_pair [] i j = false
lists_pair (p ∷ ps) i j = (nat_eq p.low i && nat_eq p.high j) || lists_pair ps i j

-- whether a node of kind k that lists ps joins its children at i and j: a series node each two, a prime node those that it lists
abbrev pub joins : Kind → List Pair → ℕ → ℕ → Bool
joins Parallel ps i j = false
joins Series ps i j = true
joins Prime ps i j = lists_pair ps (min i j) (max i j)

abbrev mutual
  -- whether two names of a tree are adjacent: at the node where they lie in different children, the kind and the pairs tell
  pub adjacent_in : PlainTree → ℕ → ℕ → Bool
  adjacent_in (leaf v) a b = false
  adjacent_in (node k cs ps) a b =
      cond (nat_eq (position_of cs a) (position_of cs b)) (adjacent_below cs a b) (joins k ps (position_of cs a) (position_of cs b))

  -- the same for two names of one of the trees
  pub adjacent_below : PlainTrees → ℕ → ℕ → Bool
  adjacent_below no_tree a b = false
  adjacent_below (one_more t ts) a b = cond (contains (names t) a) (adjacent_in t a b) (adjacent_below ts a b)

-- the graph that a tree denotes: its leaves, and their adjacency in the tree; the graph without vertices where there is no tree
abbrev pub graph_of_tree : Option PlainTree → PlainGraph
graph_of_tree None = empty_graph
graph_of_tree (Some t) = record {
  vertices = names t;
  edges = pairs_where (λ a b. (contains (names t) a && contains (names t) b) && adjacent_in t a b) NAMES;
}
