-- The plain tree that a tree of the program is.
use Rattle.std.specs.Prelude.{ℕ, List, map, drop, Option, option_map}
use Rattle.md_tree.specs.declared.ChildrenOf.{ChildrenOf, out-ChildrenOf}
use Rattle.md_tree.specs.declared.TreeOf.{TreeOf, Leaf, Node', Row_of-TreeOf, end_of-TreeOf, more_of-TreeOf}
use Rattle.md_tree.specs.Trees.{PlainTreeOf, leaf, node, PlainTreesOf, no_tree, one_more, row}

unfoldable mutual
  -- the tree with its children and its pairs as lists
  pub plain : {K P : Type 0} → TreeOf K P → PlainTreeOf K P
  plain (Leaf v) = leaf v
  plain (Node' k shape row edges) = node k (plain_row row) edges.list.items

  pub plain_row : {K P : Type 0} {m : _} → Row_of-TreeOf K P m → PlainTreesOf K P
  plain_row end_of-TreeOf = no_tree
  plain_row (more_of-TreeOf t rest) = one_more (plain t) (plain_row rest)

-- none, or the plain tree
abbrev pub plain_option : {K P : Type 0} → Option (TreeOf K P) → Option (PlainTreeOf K P)
plain_option = option_map plain

-- the children of a node, as a list
abbrev pub trees_of : {K P : Type 0} → ChildrenOf K P → List (TreeOf K P)
trees_of children = (out-ChildrenOf _ _ children).list.items

-- the children of a node in a row
abbrev pub row_of_children : {K P : Type 0} → ChildrenOf K P → PlainTreesOf K P
row_of_children children = row (map plain (trees_of children))

-- its children from a position on, in a row
abbrev pub row_from : {K P : Type 0} → ChildrenOf K P → ℕ → PlainTreesOf K P
row_from children from = row (map plain (drop from (trees_of children)))
