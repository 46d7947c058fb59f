use Rattle.md_comparability.proofs.Listing.{RowListed}
use Rattle.md_orient.proofs.orientation.list_row.Given as goal

abbrev pub invariant-loop-head : goal.invariant-loop-head
invariant-loop-head g l = RowListed l.tail l.heads l.fn.list.items l.list.items l.head-iterator
