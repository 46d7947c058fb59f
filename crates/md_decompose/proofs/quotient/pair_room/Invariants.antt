use Rattle.md_graph.proofs.Walks.{Walked}
use Rattle.md_decompose.proofs.quotient.pair_room.Given as goal

abbrev pub invariant-loop-head : goal.invariant-loop-head
invariant-loop-head g l = Walked l.heads l.head-iterator (λ _. Unit {0})
