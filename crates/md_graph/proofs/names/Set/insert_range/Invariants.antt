use Rattle.md_graph.proofs.Ranges.{Filled}
use Rattle.md_graph.proofs.names.Set.insert_range.Given as goal

abbrev pub invariant-loop-at : goal.invariant-loop-at
invariant-loop-at g l = Filled l.initial.self l.self l.from l.to l.at
