use Rattle.std.specs.FinSet.{intersection}
use Rattle.md_graph.specs.PlainGraph.{neighbours}
use Rattle.md_modules.proofs.PathSearch.{NothingAcross}
use Rattle.md_graph.proofs.Walks.{Walked}
use Rattle.md_modules.proofs.induced_paths.path_over.Given as goal

abbrev pub invariant-loop-m : goal.invariant-loop-m
invariant-loop-m g l = Walked (intersection l.part (neighbours l.graph l.o)) l.m-iterator (NothingAcross l.graph l.part l.o l.value)
