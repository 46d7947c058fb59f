use Rattle.std.proofs.Common.{◌≡◌, ◌+◌, ◌-◌, ◌%◌, ◌<◌, ◌≤◌, ◌==◌, ℕ}
use Rattle.std.specs.Int.{bit_at}
use Rattle.std.specs.FinSet as set
use Rattle.md_graph.specs.Sets.{Has}
use Rattle.md_blocks.proofs.writer.next_word.Given as goal

abbrev pub invariant-loop-bits : goal.invariant-loop-bits
invariant-loop-bits g l = record {
  aligned : l.first % 64 ≡ 0;
  up : l.from ≤ l.first;
  within : l.first ≤ l.last;
  none : (v : ℕ) → Has l.set v → l.from ≤ v → l.first ≤ v;
  has : (k : ℕ) → k < 64 → set.contains l.set (l.first + k) ≡ (bit_at l.bits k == 1);
}

abbrev pub decreases-loop-bits : goal.decreases-loop-bits
decreases-loop-bits g l = l.last - l.first
