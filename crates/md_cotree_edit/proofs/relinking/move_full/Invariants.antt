use Rattle.std.proofs.Common.{◌+◌, ◌-◌, ◌*◌, length}
use Rattle.md_cotree_edit.proofs.Insertions.FullChildren.{IsMoving}
use Rattle.md_cotree_edit.proofs.relinking.move_full.Given as goal

abbrev pub invariant-loop-next : goal.invariant-loop-next
invariant-loop-next g l = IsMoving l.fn.lists l.lists l.from l.to l.next l.fn.steps l.steps

abbrev pub decreases-loop-next : goal.decreases-loop-next
decreases-loop-next g l = (l.fn.steps + 2 + 5 * length l.fn.lists.marked) - l.steps
