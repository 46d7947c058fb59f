use Rattle.std.proofs.Common.{ℕ, ◌+◌, ◌*◌, ◌≤◌, List, length}
use Rattle.md_lists.specs.Links.{AreLinks}
use Rattle.md_cotree_edit.specs.Marks.{ClimbView, CanClimb, AreWalkedOver, walked_to, AreStill}
use Rattle.md_cotree_edit.proofs.Climbs.WalkedList.{IsPassing, room_left}
use Rattle.md_cotree_edit.proofs.climbing.climb.Given as goal

abbrev pub invariant-loop-next : goal.invariant-loop-next
invariant-loop-next g l = record {
  done : List ℕ;
  pass : IsPassing done l.lists.marked l.next;
  walked : (d : ClimbView) → CanClimb l.fn.lists d → AreWalkedOver l.lists (walked_to d done);
  still : AreStill l.fn.lists l.lists;
  steps : l.steps ≤ l.fn.steps + 1 + 8 * length done;
  links : AreLinks l.lists;
}

abbrev pub decreases-loop-next : goal.decreases-loop-next
decreases-loop-next g l = room_left l.lists.marked l.next
