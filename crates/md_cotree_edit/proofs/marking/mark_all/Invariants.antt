use Rattle.md_lists.specs.Links.{AreLinks}
use Rattle.md_cotree.specs.PlaceTrees.{PlaceTree}
use Rattle.md_cotree_edit.specs.Marks.{CanMarkAll, AreStill}
use Rattle.md_cotree_edit.proofs.Marks.MarkedAll.{IsMarkedTo}
use Rattle.md_cotree_edit.proofs.marking.mark_all.Given as goal

abbrev pub invariant-loop-name : goal.invariant-loop-name
invariant-loop-name g l = record {
  links : AreLinks l.lists;
  still : AreStill l.fn.lists l.lists;
  marked : (t : PlaceTree) → CanMarkAll l.fn.lists l.places l.names t → IsMarkedTo l.lists l.names l.name-index l.fn.steps l.steps t;
}
