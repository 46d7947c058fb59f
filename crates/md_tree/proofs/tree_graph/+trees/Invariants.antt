use Rattle.md_graph.specs.Sets.{Within, Disjoint}
use Rattle.md_tree.specs.Trees.{names, names_below}
use Rattle.md_tree.specs.Plain.{plain}
use Rattle.md_tree.specs.TreeEdges.{crosses}
use Rattle.md_tree.proofs.Loops.{EdgeLoop}
use Rattle.md_tree.proofs.tree_graph.+trees.Given as goal

abbrev pub invariant-join_below-loop-child : goal.invariant-join_below-loop-child
invariant-join_below-loop-child l =
    EdgeLoop (λ ts. crosses (names_below ts) (names (plain l.right))) (λ ts. Disjoint (names_below ts) (names (plain l.right))) l.initial.graph l.graph l.children.list.items l.child-index
    × Within (names (plain l.right)) l.graph.vertices
