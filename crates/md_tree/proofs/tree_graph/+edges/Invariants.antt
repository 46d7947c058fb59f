use Rattle.md_tree.specs.Trees.{EachNodeBelow}
use Rattle.md_tree.specs.WellFormed.{IsCanonicalNode}
use Rattle.md_tree.specs.TreeEdges.{has_edge_below}
use Rattle.md_tree.proofs.Loops.{EdgeLoop}
use Rattle.md_tree.proofs.tree_graph.+edges.Given as goal

abbrev pub invariant-add_edges_below-loop-child : goal.invariant-add_edges_below-loop-child
invariant-add_edges_below-loop-child l =
    EdgeLoop has_edge_below (EachNodeBelow IsCanonicalNode) l.initial.graph l.graph l.children.list.items l.child-index
