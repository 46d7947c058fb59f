-- The laws of trees without prime nodes.
-- Source: Corneil, Lerchs and Stewart Burlingham, Complement reducible graphs.
use Rattle.std.specs.Prelude.{◌≡◌, Option}
use Rattle.md_graph.specs.PlainGraph.{adjacent}
use Rattle.md_modules.specs.InducedPaths.{HasInducedPath}
use Rattle.md_tree.specs.Trees.{PlainTree}
use Rattle.md_tree.specs.StrongTrees.{IsTree}
use Rattle.md_tree.specs.WellFormed.{IsWellFormed}
use Rattle.md_tree.specs.NoPrimes.{HasNoPrime}
use Rattle.md_tree.specs.TreeGraph.{graph_of_tree}

-- a well-formed tree without prime nodes is the tree of strong modules of the graph that it denotes
abbrev pub TreeOfItsGraph : Type 0
TreeOfItsGraph = (o : Option PlainTree) → IsWellFormed o → HasNoPrime o →
    IsTree (adjacent (graph_of_tree o)) (graph_of_tree o).vertices o

-- two well-formed trees without prime nodes that denote one graph are equal
abbrev pub OneTreeOfAGraph : Type 0
OneTreeOfAGraph = (o p : Option PlainTree) → IsWellFormed o → HasNoPrime o → IsWellFormed p → HasNoPrime p →
    graph_of_tree o ≡ graph_of_tree p → o ≡ p

-- a graph that such a tree denotes has no induced path on four vertices
abbrev pub NoPathInItsGraph : Type 0
NoPathInItsGraph = (o : Option PlainTree) → IsWellFormed o → HasNoPrime o →
    ¬ (HasInducedPath (adjacent (graph_of_tree o)) (graph_of_tree o).vertices)
