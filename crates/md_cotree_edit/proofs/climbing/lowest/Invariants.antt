use Rattle.std.proofs.Common.{ℕ, ◌+◌, ◌*◌, ◌<◌, ◌≤◌, List, length}
use Rattle.md_graph.specs.Linked.{times}
use Rattle.md_lists.specs.Links.{note_at}
use Rattle.md_cotree_edit.proofs.Climbs.WalkedList.{IsPassing, room_left}
use Rattle.md_cotree_edit.proofs.climbing.lowest.Given as goal

abbrev pub invariant-loop-next : goal.invariant-loop-next
invariant-loop-next g l = record {
  done : List ℕ;
  pass : IsPassing done l.lists.marked l.next;
  noted : (p : ℕ) → 0 < times p done → 0 < note_at l.lists p;
  steps : l.steps ≤ l.fn.steps + 1 + 2 * length done;
}

abbrev pub decreases-loop-next : goal.decreases-loop-next
decreases-loop-next g l = room_left l.lists.marked l.next
