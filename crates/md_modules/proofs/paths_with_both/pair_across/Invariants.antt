use Rattle.md_modules.proofs.BothPaths.{NoneAcross}
use Rattle.md_graph.proofs.Walks.{Walked}
use Rattle.md_modules.proofs.paths_with_both.pair_across.Given as goal

abbrev pub invariant-loop-m : goal.invariant-loop-m
invariant-loop-m g l = Walked l.firsts l.m-iterator (NoneAcross l.graph l.seconds l.value)
