use Rattle.md_modules.proofs.PathSearch.{NoPathWith}
use Rattle.md_graph.proofs.Walks.{Walked}
use Rattle.md_modules.proofs.induced_paths.find_p4.Given as goal

abbrev pub invariant-loop-x : goal.invariant-loop-x
invariant-loop-x g l = Walked l.graph.vertices l.x-iterator (NoPathWith l.graph)
