-- The nodes of a tree as a list: each before those below it, and the children from the last to the first.
-- Source: the prefix notation of trees, read from right to left.
use Rattle.std.specs.Prelude.{List, [], ◌∷◌, ◌++◌}
use Rattle.md_tree.specs.Trees.{PlainTreeOf, leaf, node, PlainTreesOf, no_tree, one_more}

abbrev mutual
  -- the nodes of a tree, leaves among them
  pub nodes_backward : {K P : Type 0} → PlainTreeOf K P → List (PlainTreeOf K P)
  nodes_backward (leaf v) = leaf v ∷ []
  nodes_backward (node k cs ps) = node k cs ps ∷ row_nodes_backward cs

  -- the nodes of trees in a row, from the last tree to the first
  pub row_nodes_backward : {K P : Type 0} → PlainTreesOf K P → List (PlainTreeOf K P)
  row_nodes_backward no_tree = []
  row_nodes_backward (one_more t ts) = row_nodes_backward ts ++ nodes_backward t
