use Rattle.std.proofs.Common.{◌≡◌, false}
use Rattle.md_digraph6.specs.ArcLine.{some_loop}
use Rattle.md_digraph6.proofs.line.has_loop.Given as goal

abbrev pub invariant-loop-i : goal.invariant-loop-i
invariant-loop-i l = some_loop l.body l.n l.i ≡ false
