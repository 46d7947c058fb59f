-- What private contracts say of the edges among the names of a tree without prime nodes, node by node: the graph that the tree
-- denotes has these (md_tree's TreeGraph).
-- Source: Corneil, Lerchs and Stewart Burlingham, Complement reducible graphs.
use Rattle.std.specs.Prelude.{◌≡◌, ℕ, Bool, true, false, ⊤}
use Rattle.md_graph.specs.Sets.{Has}
use Rattle.md_tree.specs.declared.Kind.{Kind}
use Rattle.md_tree.specs.declared.Kind.TheVariants.{Parallel, Series, Prime}
use Rattle.md_tree.specs.Trees.{PlainTree, leaf, node, PlainTrees, no_tree, one_more, names, names_below}

-- whether different children of a node of this kind, if it isn't prime, are joined
abbrev pub across : Kind → Bool
across Parallel = false
across Series = true
across Prime = false

abbrev mutual
  -- e has, between different children of each node of t, all edges or none, as the kind of the node says
  pub FollowsTree : (ℕ → ℕ → Bool) → PlainTree → Type 0
  FollowsTree e (leaf v) = ⊤
  FollowsTree e (node k cs ps) = FollowsRow e (across k) cs

  -- the same below each of the trees, and between different ones the value v
  pub FollowsRow : (ℕ → ℕ → Bool) → Bool → PlainTrees → Type 0
  FollowsRow e v no_tree = ⊤
  FollowsRow e v (one_more t ts) =
      FollowsTree e t × ((a b : ℕ) → Has (names t) a → Has (names_below ts) b → e a b ≡ v) × FollowsRow e v ts
