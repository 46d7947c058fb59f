use Rattle.md_tree.specs.WellFormed.{AreDisjoint}
use Rattle.md_tree.specs.TreeEdges.{in_two}
use Rattle.md_tree.proofs.Loops.{EdgeLoop}
use Rattle.md_tree.proofs.tree_graph.join_each_two.Given as goal

abbrev pub invariant-loop-i : goal.invariant-loop-i
invariant-loop-i l = EdgeLoop in_two AreDisjoint l.initial.graph l.graph l.children.list.items l.i
