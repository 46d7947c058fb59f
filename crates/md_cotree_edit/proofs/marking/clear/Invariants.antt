use Rattle.std.proofs.Common.{◌≡◌, ◌+◌, length}
use Rattle.md_lists.specs.Links.{AreLinks}
use Rattle.md_cotree_edit.specs.Marks.{AreStill}
use Rattle.md_cotree_edit.proofs.marking.clear.Given as goal

abbrev pub invariant-loop-place : goal.invariant-loop-place
invariant-loop-place g l = record {
  still : AreStill l.fn.lists l.lists;
  links : AreLinks l.lists;
  steps : l.steps + length l.lists.marked ≡ l.fn.steps + length l.fn.lists.marked;
}

abbrev pub decreases-loop-place : goal.decreases-loop-place
decreases-loop-place g l = length l.lists.marked
