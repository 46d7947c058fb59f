use Rattle.md_digraph6.specs.ArcFilled.{HasArcRows}
use Rattle.md_digraph6.proofs.body.fill_rows.Given as goal

abbrev pub invariant-loop-i : goal.invariant-loop-i
invariant-loop-i g l = HasArcRows l.body l.n l.i l.graph
