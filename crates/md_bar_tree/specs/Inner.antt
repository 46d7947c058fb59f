-- Trees without prime nodes in which nodes have few children that are no leaves.
-- Source: Wolk, The comparability graph of a tree (1962), and Chvatal and Hammer, Aggregation of inequalities in integer
-- programming (1977), told of cotrees.
use Rattle.std.specs.Prelude.{Option, Some, None, ⊤}
use Rattle.md_tree.specs.declared.Kind.{Kind}
use Rattle.md_tree.specs.declared.Kind.TheVariants.{Parallel, Series, Prime}
use Rattle.md_tree.specs.Trees.{PlainTree, leaf, node, PlainTrees, no_tree, one_more, EachNode, EachNodeBelow}
use Rattle.md_bar_tree.specs.declared.Class.{Class}
use Rattle.md_bar_tree.specs.declared.Class.TheVariants.{Trivial, Threshold}

-- the tree is no leaf
abbrev pub IsInnerTree : PlainTree → Type 0
IsInnerTree (leaf v) = ⊥
IsInnerTree (node k cs ps) = ⊤

-- each of the trees is a leaf
abbrev pub AreLeaves : PlainTrees → Type 0
AreLeaves no_tree = ⊤
AreLeaves (one_more t ts) = (¬ (IsInnerTree t)) × AreLeaves ts

-- at most one of the trees is no leaf
abbrev pub HasOneInner : PlainTrees → Type 0
HasOneInner no_tree = ⊤
HasOneInner (one_more t ts) = (IsInnerTree t → AreLeaves ts) × HasOneInner ts

-- nodes of this kind are asked to have at most one child that is no leaf: series nodes, and of threshold graphs parallel nodes too
abbrev pub IsNarrow : Class → Kind → Type 0
IsNarrow class Series = ⊤
IsNarrow Threshold Parallel = ⊤
IsNarrow Trivial Parallel = ⊥
IsNarrow class Prime = ⊥

-- each series node has at most one child that is no leaf, and for threshold graphs each parallel node too
abbrev pub HasFewInner : Class → PlainTree → Type 0
HasFewInner class = EachNode (λ k cs ps. IsNarrow class k → HasOneInner cs)

-- the same of trees in a row
abbrev pub HaveFewInner : Class → PlainTrees → Type 0
HaveFewInner class = EachNodeBelow (λ k cs ps. IsNarrow class k → HasOneInner cs)

-- the same of a tree, or of none
abbrev pub HasFewInnerIn : Class → Option PlainTree → Type 0
HasFewInnerIn class None = ⊤
HasFewInnerIn class (Some t) = HasFewInner class t
