use Rattle.std.proofs.Common.{◌*◌}
use Rattle.md_digraph6.proofs.ArcFill.{IsRowTo}
use Rattle.md_digraph6.proofs.body.arc_row.Given as goal

abbrev pub invariant-loop-w : goal.invariant-loop-w
invariant-loop-w g l = IsRowTo l.body l.n l.i (64 * l.w) l.row
