use Rattle.std.proofs.Common.{◌≡◌, ◌+◌, ◌≤◌, map, length, vec_len}
use Rattle.md_lists.specs.declared.TheConstants.{PLACES}
use Rattle.md_cotree.specs.PlaceTrees.{PlaceTree, place_of, shape, Stands}
use Rattle.md_cotree.specs.Orders.{AllLive, part_at}
use Rattle.md_cotree.specs.Entries.{table_trees, AreEntryTrees, entry_keyed}
use Rattle.md_cotree.proofs.Stacked.{IsStacked}
use Rattle.md_cotree.proofs.outline.outline_at.Given as goal

abbrev pub invariant-loop-place : goal.invariant-loop-place
invariant-loop-place g l = record {
  live : AllLive l.lists l.places.items;
  entries : AreEntryTrees (table_trees l.table.items) l.table.items l.stack.items;
  few : length l.table.items + length l.stack.items + length l.places.items ≤ PLACES;
  trees : (t : PlaceTree) → Stands l.lists t → place_of t ≡ l.root →
      IsStacked (shape t) (map (part_at l.lists) l.places.items) (map (entry_keyed (table_trees l.table.items)) l.stack.items);
}

abbrev pub decreases-loop-place : goal.decreases-loop-place
decreases-loop-place g l = vec_len l.places
