use Rattle.std.proofs.Common.{take}
use Rattle.std.specs.List.{All}
use Rattle.md_graph.specs.Sets.{Has}
use Rattle.md_tree_tests.proofs.vertex_insertions.are_there.Given as goal

abbrev pub invariant-loop-name : goal.invariant-loop-name
invariant-loop-name l = All (Has l.graph.vertices) (take l.name-index l.names)
