use Rattle.std.proofs.Common.{◌≡◌, ◌+◌, ◌*◌, ◌≤◌, length}
use Rattle.md_lists.specs.Links.{AreLinks, children_at}
use Rattle.md_cotree_edit.specs.Deletions.{MoveView, CanMove, AreMoving}
use Rattle.md_cotree_edit.proofs.deletion.move_all.Given as goal

abbrev pub invariant-loop-child : goal.invariant-loop-child
invariant-loop-child g l = record {
  links : AreLinks l.lists;
  marked : l.lists.marked ≡ l.fn.lists.marked;
  moving : (d : MoveView) → CanMove l.fn.lists l.from l.to d → AreMoving l.lists l.from l.to d;
  steps : l.steps + 3 * length (children_at l.lists l.from) ≤ l.fn.steps + 3 * length (children_at l.fn.lists l.from);
}

abbrev pub decreases-loop-child : goal.decreases-loop-child
decreases-loop-child g l = length (children_at l.lists l.from)
