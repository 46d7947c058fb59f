-- Trees over names: their nodes, leaf sets and positions. What a node says of itself is its kind and the list of what it says of
-- pairs of its children: trees of graphs are those over `Kind` and `Pair`.
-- Source: any textbook of graph theory.
use Rattle.std.specs.Prelude.{ℕ, zero, suc, List, [], ◌∷◌, ◌++◌, length, Option, Some, None, ⊤}
use Rattle.std.specs.FinSet.{empty, union}
use Rattle.md_graph.specs.Sets.{NameSet, only_name}
use Rattle.md_tree.specs.declared.Kind.{Kind}
use Rattle.md_tree.specs.declared.Pair.{Pair}

mutual
  -- a name, or a node with its kind, its children in order, and the pairs of positions that it lists
  pub data PlainTreeOf (K P : Type 0) : Type 0 where
    leaf : ℕ → PlainTreeOf K P
    node : K → PlainTreesOf K P → List P → PlainTreeOf K P

  -- trees in a row
  pub data PlainTreesOf (K P : Type 0) : Type 0 where
    no_tree : PlainTreesOf K P
    one_more : PlainTreeOf K P → PlainTreesOf K P → PlainTreesOf K P

-- the trees of graphs
abbrev pub PlainTree : Type 0
PlainTree = PlainTreeOf Kind Pair

abbrev pub PlainTrees : Type 0
PlainTrees = PlainTreesOf Kind Pair

abbrev mutual
  -- the leaf set of a tree: the names at its leaves
  pub names : {K P : Type 0} → PlainTreeOf K P → NameSet
  names (leaf v) = only_name v
  names (node k cs ps) = names_below cs

  pub names_below : {K P : Type 0} → PlainTreesOf K P → NameSet
  names_below no_tree = empty
  names_below (one_more t ts) = union (names t) (names_below ts)

abbrev mutual
  -- the leaf sets of the nodes of a tree, leaves among them, each node before those below it
  pub node_sets : {K P : Type 0} → PlainTreeOf K P → List NameSet
  node_sets (leaf v) = only_name v ∷ []
  node_sets (node k cs ps) = names_below cs ∷ node_sets_below cs

  pub node_sets_below : {K P : Type 0} → PlainTreesOf K P → List NameSet
  node_sets_below no_tree = []
  node_sets_below (one_more t ts) = node_sets t ++ node_sets_below ts

-- the number of nodes of a tree, leaves among them; 0 where there is no tree
abbrev pub nodes_in : {K P : Type 0} → Option (PlainTreeOf K P) → ℕ
nodes_in None = 0
nodes_in (Some t) = length (node_sets t)

abbrev mutual
  -- N holds of the kind, the children and the pairs of each node that is no leaf
  pub EachNode : {K P : Type 0} → (K → PlainTreesOf K P → List P → Type 0) → PlainTreeOf K P → Type 0
  EachNode N (leaf v) = ⊤
  EachNode N (node k cs ps) = N k cs ps × EachNodeBelow N cs

  pub EachNodeBelow : {K P : Type 0} → (K → PlainTreesOf K P → List P → Type 0) → PlainTreesOf K P → Type 0
  EachNodeBelow N no_tree = ⊤
  EachNodeBelow N (one_more t ts) = EachNode N t × EachNodeBelow N ts

-- how many trees stand in a row
abbrev pub count : {K P : Type 0} → PlainTreesOf K P → ℕ
count no_tree = 0
count (one_more t ts) = suc (count ts)

-- the leaf set of the tree at a position, counted from 0; the empty set past the end
abbrev pub names_at : {K P : Type 0} → PlainTreesOf K P → ℕ → NameSet
names_at no_tree i = empty
names_at (one_more t ts) zero = names t
names_at (one_more t ts) (suc i) = names_at ts i

-- the trees of a list in a row
abbrev pub row : {K P : Type 0} → List (PlainTreeOf K P) → PlainTreesOf K P
row [] = no_tree
row (t ∷ ts) = one_more t (row ts)
