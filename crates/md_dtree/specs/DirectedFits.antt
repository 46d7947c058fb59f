-- Whether a tree fits a directed graph, node by node, from the graph and the tree alone.
-- Source: Ehrenfeucht and Rozenberg, Theory of 2-structures; the test of a given tree is our own.
use Rattle.std.specs.Prelude.{◌≡◌, ℕ, Bool, false, ◌&&◌, ◌||◌, nat_eq, List, [], ◌∷◌}
use Rattle.md_graph.specs.Sets.{NameSet}
use Rattle.md_digraph.specs.ArcColours.{ArcColour, between, no_arc, both_arcs}
use Rattle.md_tree.specs.Trees.{names, EachNode}
use Rattle.md_tree.specs.Heads.{IsFitNodeBy}
use Rattle.md_dtree.specs.declared.DKind.{DKind}
use Rattle.md_dtree.specs.declared.DKind.TheVariants.{Parallel, Series, Order, Prime}
use Rattle.md_dtree.specs.declared.DPair.{DPair}
use Rattle.md_dtree.specs.DirectedTrees.{PlainDTree, PlainDTrees, arc_forth}

-- whether the list has the pair (i, j)
abbrev pub lists_arc : List DPair → ℕ → ℕ → Bool
lists_arc [] i j = false
lists_arc (p ∷ ps) i j = (nat_eq p.from i && nat_eq p.to j) || lists_arc ps i j

-- the arcs that a node of kind k that lists ps puts between its children at i and j, i below j: a
-- parallel node none, a series node both, an order node those there, a prime node those that it
-- lists
abbrev pub puts_arcs : DKind → List DPair → ℕ → ℕ → ArcColour
puts_arcs Parallel ps i j = no_arc
puts_arcs Series ps i j = both_arcs
puts_arcs Order ps i j = arc_forth
puts_arcs Prime ps i j = between (lists_arc ps) i j

-- a node of kind k with the children cs and the pairs ps fits the directed graph on s: its leaf set
-- is a module; between the heads of two children are the arcs that the node puts there; and the
-- directed graph on the heads of a prime node's children has trivial modules alone
abbrev pub IsFitDNode :
    (ℕ → ℕ → Bool) → NameSet → DKind → PlainDTrees → List DPair → Type 0
IsFitDNode arc = IsFitNodeBy puts_arcs (λ k. k ≡ Prime) (between arc)

-- the leaves of t are s, and each of its nodes fits
abbrev pub FitsDirected : (ℕ → ℕ → Bool) → NameSet → PlainDTree → Type 0
FitsDirected arc s t = (names t ≡ s) × EachNode (IsFitDNode arc s) t
