use Rattle.std.proofs.Common.{drop}
use Rattle.md_graph.specs.Sets.{Within, Disjoint}
use Rattle.md_tree.specs.Trees.{names, names_below}
use Rattle.md_tree.specs.Plain.{plain}
use Rattle.md_tree.specs.TreeEdges.{crosses}
use Rattle.md_tree.proofs.Loops.{EdgeLoop}
use Rattle.md_tree.proofs.tree_graph.join_later.Given as goal

abbrev pub invariant-loop-later : goal.invariant-loop-later
invariant-loop-later l =
    EdgeLoop (λ ts. crosses (names (plain l.tree)) (names_below ts)) (λ ts. Disjoint (names (plain l.tree)) (names_below ts)) l.initial.graph l.graph
    (drop l.from l.children.list.items) l.later-index
    × Within (names (plain l.tree)) l.graph.vertices
