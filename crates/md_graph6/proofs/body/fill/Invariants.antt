use Rattle.md_graph6.specs.Filled.{IsFilled}
use Rattle.md_graph6.proofs.body.fill.Given as goal

abbrev pub invariant-loop-h : goal.invariant-loop-h
invariant-loop-h g l = IsFilled l.body l.n l.h 0 l.graph
