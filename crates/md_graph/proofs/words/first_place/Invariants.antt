use Rattle.md_graph.proofs.FirstPlace.{NoneFromTo}
use Rattle.md_graph.proofs.words.first_place.Given as goal

abbrev pub invariant-loop-i : goal.invariant-loop-i
invariant-loop-i l = NoneFromTo l.words l.from l.i
