use Rattle.md_tree.proofs.Loops.{NameLoop}
use Rattle.md_tree.proofs.tree_graph.+vertices.Given as goal

abbrev pub invariant-add_names_below-loop-child : goal.invariant-add_names_below-loop-child
invariant-add_names_below-loop-child l = NameLoop l.initial.graph l.graph l.children.list.items l.child-index
