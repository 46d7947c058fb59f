use Rattle.md_graph6.specs.Filled.{IsFilled}
use Rattle.md_graph6.proofs.body.fill_columns.Given as goal

abbrev pub invariant-loop-l : goal.invariant-loop-l
invariant-loop-l g l = IsFilled l.body l.n l.h l.l l.graph
