-- What private contracts say of the search for a bar in a tree.
-- Source: our own.
use Rattle.std.specs.Prelude.{◌≡◌, ◌⊎◌, ℕ, Bool}
use Rattle.md_graph.specs.Adjacency.{IsAdjacency}
use Rattle.md_tree.specs.declared.Kind.{Kind}
use Rattle.md_tree.specs.declared.Kind.TheVariants.{Parallel, Series, Prime}
use Rattle.md_tree.specs.Trees.{PlainTree, leaf, node, PlainTrees, no_tree, one_more, names, names_at}
use Rattle.md_tree.specs.Held.{IsLeast}
use Rattle.md_tree.specs.WellFormed.{IsCanonicalTree, HasNoPrimeNode}
use Rattle.md_bar_tree.specs.declared.Class.{Class}
use Rattle.md_bar_tree.specs.declared.BarKind.TheVariants.{C4, TwoK2}
use Rattle.md_bar_tree.specs.declared.Bar.{Bar}
use Rattle.md_bar_tree.specs.Bars.{IsBar}
use Rattle.md_bar_tree.specs.Inner.{IsInnerTree}
use Rattle.md_bar_tree.specs.Following.{FollowsTree}

-- if t is a tree of a graph without prime nodes, then the bar is one of the class in that graph
abbrev pub IsFoundIn : Class → PlainTree → Bar → Type 0
IsFoundIn class t bar =
    IsCanonicalTree t → HasNoPrimeNode t → (e : ℕ → ℕ → Bool) → IsAdjacency e → FollowsTree e t → IsBar class e (names t) bar

-- the trees are some leaves, and then those of the other row
abbrev pub LeavesThen : PlainTrees → PlainTrees → Type 0
LeavesThen no_tree ds = ds ≡ no_tree
LeavesThen (one_more t ts) ds = (ds ≡ one_more t ts) ⊎ ((¬ (IsInnerTree t)) × LeavesThen ts ds)

-- the first of the trees is no leaf
abbrev pub BeginsInner : PlainTrees → Type 0
BeginsInner no_tree = ⊥
BeginsInner (one_more t ts) = IsInnerTree t

-- the other row begins with the first of the trees that is no leaf
abbrev pub IsNextInner : PlainTrees → PlainTrees → Type 0
IsNextInner cs ds = LeavesThen cs ds × BeginsInner ds

-- p and q are the least names of the first two children of the tree
abbrev pub AreLeastTwo : PlainTree → ℕ → ℕ → Type 0
AreLeastTwo (leaf v) p q = ⊥
AreLeastTwo (node k cs ps) p q = IsLeast (names_at cs 0) p × IsLeast (names_at cs 1) q

-- the bar at a node of this kind that has p and q below one child, and r and s below another one
abbrev pub bar_across : Kind → ℕ → ℕ → ℕ → ℕ → Bar
bar_across Series p q r s = record { kind = C4; a = p; b = r; c = q; d = s }
bar_across Parallel p q r s = record { kind = TwoK2; a = p; b = q; c = r; d = s }
bar_across Prime p q r s = record { kind = TwoK2; a = p; b = q; c = r; d = s }

-- the bar is that of the first two children of each of the two trees
abbrev pub IsBarOfTwo : Kind → PlainTree → PlainTree → Bar → Type 0
IsBarOfTwo k t u bar =
    (p : ℕ) × (q : ℕ) × (r : ℕ) × (s : ℕ) × AreLeastTwo t p q × AreLeastTwo u r s × (bar ≡ bar_across k p q r s)
