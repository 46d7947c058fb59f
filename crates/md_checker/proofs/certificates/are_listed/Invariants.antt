use Rattle.std.proofs.Common.{◌≡◌, ◌≤◌, take, length}
use Rattle.md_comparability.specs.Listed.{arcs_below}
use Rattle.md_checker.proofs.certificates.are_listed.Given as goal

abbrev pub invariant-loop-tail : goal.invariant-loop-tail
invariant-loop-tail g l = record {
  within : l.at ≤ length l.list;
  front : take l.at l.list ≡ arcs_below l.set l.tail;
}
