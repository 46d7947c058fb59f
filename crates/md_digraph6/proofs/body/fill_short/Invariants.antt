use Rattle.std.proofs.Common.{◌*◌, ◌<◌}
use Rattle.md_graph6.specs.Short.{IsUnread}
use Rattle.md_digraph6.specs.ArcFilled.{HasArcRows}
use Rattle.md_digraph6.proofs.body.fill_short.Given as goal

abbrev pub invariant-loop-i : goal.invariant-loop-i
invariant-loop-i g l = record {
  unread : IsUnread l.body (l.i * l.n) l.unread.bits l.unread.held l.unread.at;
  room : l.unread.held < 64;
  rows : HasArcRows l.body l.n l.i l.graph;
}
