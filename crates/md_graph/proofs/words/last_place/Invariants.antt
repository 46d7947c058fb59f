use Rattle.md_graph.proofs.LastPlace.{NoneBehind}
use Rattle.md_graph.proofs.words.last_place.Given as goal

abbrev pub invariant-loop-i : goal.invariant-loop-i
invariant-loop-i l = NoneBehind l.words l.i l.used
