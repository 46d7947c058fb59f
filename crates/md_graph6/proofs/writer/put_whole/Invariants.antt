use Rattle.std.proofs.Common.{◌≡◌, ℕ, ◌+◌, ◌*◌}
use Rattle.md_graph6.specs.Short.{put_bit, IsUnput}
use Rattle.md_graph6.proofs.writer.put_whole.Given as goal

abbrev pub invariant-loop-held : goal.invariant-loop-held
invariant-loop-held l = record {
  unput : IsUnput l.body l.bits l.held l.at;
  place : 6 * l.at + l.held ≡ 6 * l.fn.unput.at + l.fn.unput.held;
  same : (k : ℕ) → put_bit l.body l.bits l.at k ≡ put_bit l.fn.body l.fn.unput.bits l.fn.unput.at k;
}

abbrev pub decreases-loop-held : goal.decreases-loop-held
decreases-loop-held l = l.held
