use Rattle.std.proofs.Common.{◌≤◌, take, length}
use Rattle.md_comparability.proofs.Listing.{RowListed}
use Rattle.md_checker.proofs.certificates.behind_row.Given as goal

abbrev pub invariant-loop-head : goal.invariant-loop-head
invariant-loop-head g l = record {
  within : l.next ≤ length l.list;
  row : RowListed l.tail l.heads (take l.at l.list) (take l.next l.list) l.head-iterator;
}
