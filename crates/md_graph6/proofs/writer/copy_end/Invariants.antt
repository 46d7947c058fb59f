use Rattle.std.proofs.Common.{◌≡◌, ℕ, ◌+◌, ◌<◌, get_or}
use Rattle.md_graph6.proofs.writer.copy_end.Given as goal

abbrev pub invariant-loop-i : goal.invariant-loop-i
invariant-loop-i l = record {
  before : (k : ℕ) → k < l.at → get_or l.body k 63 ≡ get_or l.fn.body k 63;
  from : (k : ℕ) → l.at + k < l.i → get_or l.body (l.at + k) 63 ≡ get_or l.twelve k 63;
}
