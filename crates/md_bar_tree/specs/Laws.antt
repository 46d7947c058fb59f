-- The law of trivially perfect graphs and threshold graphs on trees.
-- Source: Wolk, The comparability graph of a tree (1962), and Chvatal and Hammer, Aggregation of inequalities in integer
-- programming (1977), told of cotrees.
use Rattle.std.specs.Prelude.{◌↔◌, ℕ, Bool, Option}
use Rattle.md_graph.specs.Sets.{NameSet}
use Rattle.md_graph.specs.Adjacency.{IsAdjacency}
use Rattle.md_modules.specs.InducedPaths.{HasInducedPath}
use Rattle.md_tree.specs.Trees.{PlainTree}
use Rattle.md_tree.specs.StrongTrees.{IsTree}
use Rattle.md_bar_tree.specs.declared.Class.{Class}
use Rattle.md_bar_tree.specs.Bars.{HasBar}
use Rattle.md_bar_tree.specs.Inner.{HasFewInnerIn}

-- a graph without an induced path on four names has no bar of a class exactly where in its tree each series node, and for
-- threshold graphs each parallel node, has at most one child that is no leaf
abbrev pub NoBarIfFewInner : Type 0
NoBarIfFewInner =
    (e : ℕ → ℕ → Bool) → IsAdjacency e → (s : NameSet) (o : Option PlainTree) → IsTree e s o → ¬ (HasInducedPath e s) →
    (class : Class) → (¬ (HasBar class e s)) ↔ HasFewInnerIn class o
