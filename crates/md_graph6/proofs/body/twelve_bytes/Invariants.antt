use Rattle.std.proofs.Common.{◌≡◌, ℕ, ◌+◌, ◌<◌, ◌≤◌, length, get_or}
use Rattle.md_graph6.proofs.body.twelve_bytes.Given as goal

abbrev pub invariant-loop-k : goal.invariant-loop-k
invariant-loop-k l = record {
  length : length l.twelve ≡ 12;
  done : (k : ℕ) → k < l.k → get_or l.twelve k 63 ≡ get_or l.body (l.at + k) 63;
  left : (k : ℕ) → l.k ≤ k → get_or l.twelve k 63 ≡ 63;
}
