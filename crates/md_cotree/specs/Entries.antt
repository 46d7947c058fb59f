-- The outline of a cotree while it is made: entries on a stack, and a table with the entries below each node.
-- Source: the evaluation of prefix notation, read from right to left, as any textbook of algorithms has it.
use Rattle.std.specs.Prelude.{◌≡◌, ℕ, ◌+◌, ◌-◌, ◌≤◌, List, [], ◌∷◌, ◌++◌, length, take, drop, map, reverse, ⊤}
use Rattle.std.specs.List.{All}
use Rattle.std.specs.List.Sorted.{IsPermutation, IsNonDecreasingBy}
use Rattle.md_lists.specs.Links.{Links}
use Rattle.md_tree.specs.declared.Kind.{Kind}
use Rattle.md_tree.specs.Parts.{PlainPart, name, inner as inner_part}
use Rattle.md_tree.specs.Trees.{PlainTree, leaf, node, row}
use Rattle.md_outline.specs.declared.outline.OutlinePart.{OutlinePart}
use Rattle.md_outline.specs.declared.outline.OutlinePart.TheVariants.{Name, Node}
use Rattle.md_outline.specs.Outlines.{outline_of, row_outline}
use Rattle.md_cotree.specs.declared.outline.Entry.{Entry}
use Rattle.md_cotree.specs.Orders.{PlainKeyed, IsLoose, IsOrdered}
use Rattle.md_cotree.specs.PlaceTrees.{PlaceTree, place_of, shape, Stands}

-- what lies in the table for the children of a part, that of the last child first
abbrev pub below_part : {A : Type 0} → OutlinePart Kind → ℕ → List A → List A
below_part (Name v) first xs = []
below_part (Node k n) first xs = take n (drop first xs)

-- the tree of a part over those of its children, the last one first
abbrev pub tree_over : OutlinePart Kind → List PlainTree → PlainTree
tree_over (Name v) ts = leaf v
tree_over (Node k n) ts = node k (row (reverse ts)) []

-- the tree of an entry, where these are the trees of the table
abbrev pub entry_tree : List PlainTree → Entry → PlainTree
entry_tree trees e = tree_over e.part (below_part e.part e.first trees)

abbrev pub entry_keyed : List PlainTree → Entry → PlainKeyed
entry_keyed trees e = record { least = e.least; tree = entry_tree trees e }

-- the trees of more entries behind others, each of which stands over earlier ones
abbrev pub trees_after : List PlainTree → List Entry → List PlainTree
trees_after trees [] = trees
trees_after trees (e ∷ es) = trees_after (trees ++ entry_tree trees e ∷ []) es

-- the trees of the entries of a table
abbrev pub table_trees : List Entry → List PlainTree
table_trees table = trees_after [] table

-- the children of the part lie among the first n entries
abbrev pub PartFits : ℕ → OutlinePart Kind → ℕ → Type 0
PartFits n (Name v) first = ⊤
PartFits n (Node k m) first = first + m ≤ n

abbrev pub FitsIn : ℕ → Entry → Type 0
FitsIn n e = PartFits n e.part e.first

-- these are the trees of the table, and the children of each entry lie in the table
pub record AreEntryTrees (trees : List PlainTree) (table stack : List Entry) : Type 0 where
  pub told : map (entry_tree trees) table ≡ trees
  pub table_fits : All (FitsIn (length table)) table
  pub stack_fits : All (FitsIn (length table)) stack

abbrev pub entry_least : Entry → ℕ
entry_least e = e.least

-- the least name of the first
abbrev pub first_least : List Entry → ℕ
first_least [] = 0
first_least (e ∷ es) = e.least

-- a node stands in place of the last n entries, which are in the table in descending order of their least names
pub record IsNodeEntryPut (k : Kind) (n : ℕ) (stack table stack' table' : List Entry) : Type 0 where
  pub sorted : List Entry
  pub moved : IsPermutation (drop (length stack - n) stack) sorted
  pub rising : IsNonDecreasingBy entry_least sorted
  pub put : stack' ≡ take (length stack - n) stack ++ record { least = first_least sorted; part = Node k n; first = length table } ∷ []
  pub laid : table' ≡ table ++ reverse sorted

-- the stack and the table after one more part
abbrev pub IsEntryPut : PlainPart → (stack table stack' table' : List Entry) → Type 0
IsEntryPut (name v) stack table stack' table' = (stack' ≡ stack ++ record { least = v; part = Name v; first = 0 } ∷ []) × (table' ≡ table)
IsEntryPut (inner_part k n ps) stack table stack' table' = IsNodeEntryPut k n stack table stack' table'

-- the outlines of the trees of a stack, from the last to the first
abbrev pub stack_outline : List PlainTree → List Entry → List (OutlinePart Kind)
stack_outline trees stack = row_outline (row (reverse (map (entry_tree trees) stack)))

-- the outline of the tree at a place, with its children in order
abbrev pub IsOutlineAt : Links → ℕ → List (OutlinePart Kind) → Type 0
IsOutlineAt l root parts =
    (s : PlainTree) × (parts ≡ outline_of s) × ((t : PlaceTree) → Stands l t → place_of t ≡ root → IsLoose (shape t) → IsOrdered s (shape t))
