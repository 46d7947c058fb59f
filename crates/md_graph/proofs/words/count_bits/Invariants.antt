use Rattle.std.proofs.Common.{◌≡◌, ◌*◌}
use Rattle.std.specs.FinSet as set
use Rattle.md_graph.specs.Words.{names_below}
use Rattle.md_graph.proofs.words.count_bits.Given as goal

abbrev pub invariant-loop-i : goal.invariant-loop-i
invariant-loop-i l =
    l.count ≡ set.len (names_below l.words (64 * l.i))
