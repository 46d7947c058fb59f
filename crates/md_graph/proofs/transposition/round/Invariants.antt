use Rattle.std.proofs.Common.{◌≡◌, length, ◌*◌}
use Rattle.md_graph.proofs.Transposing.{IsDone}
use Rattle.md_graph.proofs.transposition.round.Given as goal

abbrev pub invariant-loop-i : goal.invariant-loop-i
invariant-loop-i l = record { size : length l.new ≡ 64; done : IsDone l.width l.words l.new (2 * l.i) }
