use Rattle.std.proofs.Common.{◌-◌, ◌<◌}
use Rattle.md_graph6.specs.Short.{IsUnread, unread_place}
use Rattle.md_graph6.proofs.body.with_bits.Given as goal

abbrev pub invariant-loop-held : goal.invariant-loop-held
invariant-loop-held l = record {
  unread : IsUnread l.body (unread_place l.fn.unread) l.bits l.held l.at;
  room : l.held < 64;
}

abbrev pub decreases-loop-held : goal.decreases-loop-held
decreases-loop-held l = l.count - l.held
