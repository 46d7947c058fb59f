use Rattle.std.proofs.Common.{◌≡◌, Bool, reverse}
use Rattle.md_lists.specs.Links.{AreLinks}
use Rattle.md_cotree.specs.PlaceTrees.{PlaceTrees, no_more, then, inner, roots, FillsLists}
use Rattle.md_cotree.specs.Forests.{row_append}
use Rattle.md_cotree.proofs.Attaching.{IsAttaching}
use Rattle.md_cotree.proofs.planting.attach_all.Given as goal

abbrev pub invariant-loop-i : goal.invariant-loop-i
invariant-loop-i g l = record {
  trees : (k : Bool) (us ts : PlaceTrees) → FillsLists l.fn.lists (then (inner l.place k no_more) (row_append us ts)) → reverse (roots us) ≡ l.fn.children → IsAttaching l.lists l.place k us ts l.children l.i;
  links : AreLinks l.lists;
  marked : l.lists.marked ≡ l.fn.lists.marked;
}
