use Rattle.md_digraph6.proofs.ArcFill.{IsArcless}
use Rattle.md_digraph6.proofs.body.add_numbers.Given as goal

abbrev pub invariant-loop-v : goal.invariant-loop-v
invariant-loop-v g l = IsArcless l.v l.graph
