use Rattle.std.proofs.Common.{◌<◌}
use Rattle.md_graph6.specs.Bits.{pair_number}
use Rattle.md_graph6.specs.Short.{IsUnread, IsFilledTo}
use Rattle.md_graph6.proofs.body.fill_short.Given as goal

abbrev pub invariant-loop-j : goal.invariant-loop-j
invariant-loop-j g l = record {
  unread : IsUnread l.body (pair_number 0 l.j) l.unread.bits l.unread.held l.unread.at;
  room : l.unread.held < 64;
  filled : IsFilledTo l.body l.n l.j l.graph;
}
