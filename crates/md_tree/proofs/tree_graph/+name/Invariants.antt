use Rattle.md_graph.specs.Sets.{Has, Lacks, only_name}
use Rattle.md_tree.specs.Trees.{names_below}
use Rattle.md_tree.specs.TreeEdges.{crosses}
use Rattle.md_tree.proofs.Loops.{EdgeLoop}
use Rattle.md_tree.proofs.tree_graph.+name.Given as goal

abbrev pub invariant-join_name_below-loop-child : goal.invariant-join_name_below-loop-child
invariant-join_name_below-loop-child l =
    EdgeLoop (λ ts. crosses (only_name l.name) (names_below ts)) (λ ts. Lacks (names_below ts) l.name) l.initial.graph l.graph l.children.list.items l.child-index
    × Has l.graph.vertices l.name
