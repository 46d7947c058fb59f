-- Trees put together from their parts, which are read from the last to the first, on a stack of finished trees.
-- Source: the evaluation of prefix notation, read from right to left.
use Rattle.std.specs.Prelude.{◌≤◌, ◌-◌, List, [], ◌∷◌, ◌++◌, length, take, drop, ⊤}
use Rattle.md_tree.specs.Trees.{PlainTreeOf, leaf, node, row}
use Rattle.md_tree.specs.Parts.{PlainPartOf, name, inner}

-- the stack after one more part, its lowest tree first: a name is a tree, and a node takes its children off the top
abbrev pub with_part : {K P : Type 0} → PlainPartOf K P → List (PlainTreeOf K P) → List (PlainTreeOf K P)
with_part (name v) ts = ts ++ leaf v ∷ []
with_part (inner k n ps) ts = take (length ts - n) ts ++ node k (row (drop (length ts - n) ts)) ps ∷ []

-- the stack has the children of the part
abbrev pub HasChildrenOf : {K P : Type 0} → PlainPartOf K P → List (PlainTreeOf K P) → Type 0
HasChildrenOf (name v) ts = ⊤
HasChildrenOf (inner k n ps) ts = n ≤ length ts
