use Rattle.std.proofs.Common.{◌+◌, ◌-◌, ◌*◌}
use Rattle.md_lists.specs.declared.TheConstants.{PLACES}
use Rattle.md_lists.specs.Links.{IsLive, AreLinks}
use Rattle.md_cotree_edit.specs.Marks.{MarkView, CanMark, AreStill}
use Rattle.md_cotree_edit.proofs.Marks.MarkedLeaf.{IsRising}
use Rattle.md_cotree_edit.proofs.marking.mark.Given as goal

abbrev pub invariant-loop-above : goal.invariant-loop-above
invariant-loop-above g l = record {
  live : IsLive l.lists l.place;
  links : AreLinks l.lists;
  still : AreStill l.fn.lists l.lists;
  rising : (d : MarkView) → CanMark l.fn.lists l.leaf d → IsRising l.lists d.marks d.name d.tree l.place l.fn.steps l.steps;
}

abbrev pub decreases-loop-above : goal.decreases-loop-above
decreases-loop-above g l = (l.fn.steps + 1 + 5 * PLACES) - l.steps
