-- The outline of a tree: its nodes without their pairs, each before those below it, and the children from the first to the last.
-- Source: the prefix notation of trees.
use Rattle.std.specs.Prelude.{List, [], ◌∷◌, ◌++◌, Option, Some, None}
use Rattle.md_tree.specs.Trees.{PlainTreeOf, leaf, node, PlainTreesOf, no_tree, one_more, count}
use Rattle.md_outline.specs.declared.outline.OutlinePart.{OutlinePart}
use Rattle.md_outline.specs.declared.outline.OutlinePart.TheVariants.{Name, Node}

abbrev mutual
  -- the outline of a tree: a name, or the kind of the root with the number of its children, and the outlines of the children
  pub outline_of : {K P : Type 0} → PlainTreeOf K P → List (OutlinePart K)
  outline_of (leaf v) = Name v ∷ []
  outline_of (node k cs ps) = Node k (count cs) ∷ row_outline cs

  -- the outlines of trees in a row, one behind the other
  pub row_outline : {K P : Type 0} → PlainTreesOf K P → List (OutlinePart K)
  row_outline no_tree = []
  row_outline (one_more t ts) = outline_of t ++ row_outline ts

-- the outline of a tree, without parts where there is no tree
abbrev pub outline_option : {K P : Type 0} → Option (PlainTreeOf K P) → List (OutlinePart K)
outline_option None = []
outline_option (Some t) = outline_of t
