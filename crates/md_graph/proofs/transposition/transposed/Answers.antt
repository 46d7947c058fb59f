use Rattle.md_graph.proofs.Transposing.{half_32, half_16, half_8, half_4, half_2, half_1, six_rounds}
use Rattle.md_graph.proofs.transposition.transposed.Goals as goal

pub round-by_32-requires-clause-halves : goal.round-by_32-requires-clause-halves
round-by_32-requires-clause-halves c = half_32

pub round-by_16-requires-clause-halves : goal.round-by_16-requires-clause-halves
round-by_16-requires-clause-halves c = half_16

pub round-by_8-requires-clause-halves : goal.round-by_8-requires-clause-halves
round-by_8-requires-clause-halves c = half_8

pub round-by_4-requires-clause-halves : goal.round-by_4-requires-clause-halves
round-by_4-requires-clause-halves c = half_4

pub round-by_2-requires-clause-halves : goal.round-by_2-requires-clause-halves
round-by_2-requires-clause-halves c = half_2

pub round-requires-clause-halves : goal.round-requires-clause-halves
round-requires-clause-halves c = half_1

pub returns : goal.returns
returns c = six_rounds c.args.words.now _ _ _ _ _ _ c.round-by_32.ensures c.round-by_16.ensures c.round-by_8.ensures c.round-by_4.ensures c.round-by_2.ensures c.round.ensures
