-- Whether a tree fits a graph, node by node, from the graph and the tree alone.
-- Source: Habib and Paul, A survey of the algorithmic aspects of modular decomposition; the test of a given tree is our own.
use Rattle.std.specs.Prelude.{◌≡◌, ◌↔◌, ℕ, Bool, List}
use Rattle.md_graph.specs.Sets.{NameSet}
use Rattle.md_graph.specs.Adjacency.{IsAdjacency}
use Rattle.md_tree.specs.declared.Kind.{Kind}
use Rattle.md_tree.specs.declared.Kind.TheVariants.{Prime}
use Rattle.md_tree.specs.declared.Pair.{Pair}
use Rattle.md_tree.specs.Trees.{PlainTree, PlainTrees, names, EachNode}
use Rattle.md_tree.specs.Heads.{head, IsFitNodeBy}
use Rattle.md_tree.specs.StrongTrees.{IsTreeOf}
use Rattle.md_tree.specs.TreeGraph.{joins}
use Rattle.md_tree.specs.WellFormed.{IsCanonicalTree}
use Rattle.md_tree.specs.Held.{IsLeast}

-- a node of kind k with the children cs and the pairs ps fits the graph on s with the adjacency e: its leaf set is a module; the
-- heads of two children are adjacent exactly where the node joins the two (a parallel node no two, a series node each two, a
-- prime node those that it lists); and the graph on the heads of a prime node's children has trivial modules alone
abbrev pub IsFitNode : (ℕ → ℕ → Bool) → NameSet → Kind → PlainTrees → List Pair → Type 0
IsFitNode e = IsFitNodeBy joins (λ k. k ≡ Prime) e

-- the leaves of t are s, and each of its nodes fits
abbrev pub Fits : (ℕ → ℕ → Bool) → NameSet → PlainTree → Type 0
Fits e s t = (names t ≡ s) × EachNode (IsFitNode e s) t

-- the head of a tree as well-formed trees are, its first leaf, is the least of its names
abbrev pub HeadsAreLeast : Type 0
HeadsAreLeast = (t : PlainTree) → IsCanonicalTree t → IsLeast (names t) (head t)

-- a tree as well-formed trees are is the tree of strong modules of a graph exactly where it fits the graph
abbrev pub FitsIfTree : Type 0
FitsIfTree =
    (e : ℕ → ℕ → Bool) → IsAdjacency e → (s : NameSet) (t : PlainTree) → IsCanonicalTree t → Fits e s t ↔ IsTreeOf e s t
