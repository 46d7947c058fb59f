use Rattle.std.proofs.Common.{◌≡◌, ◌+◌, length}
use Rattle.md_graph6.specs.Bits.{pair_number}
use Rattle.md_graph6.proofs.FillLemmas.{IsPart}
use Rattle.md_graph6.proofs.body.block_bits.Given as goal

abbrev pub invariant-loop-r : goal.invariant-loop-r
invariant-loop-r l = record {
  size : length l.block ≡ 64;
  place : l.place ≡ pair_number 0 (l.high + l.r);
  done : IsPart l.body l.n l.low l.high l.block l.r;
}
