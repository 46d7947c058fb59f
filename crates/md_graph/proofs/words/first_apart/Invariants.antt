use Rattle.std.proofs.Common.{◌≡◌, ℕ, ◌<◌, ◌*◌}
use Rattle.md_graph.specs.Words.{bit_apart}
use Rattle.md_graph.proofs.words.first_apart.Given as goal

abbrev pub invariant-loop-i : goal.invariant-loop-i
invariant-loop-i l = (q : ℕ) → q < 64 * l.i → bit_apart l.words l.first l.second q ≡ 0
