use Rattle.std.proofs.Common.{◌≡◌, ◌-◌, length}
use Rattle.md_lists.specs.declared.TheConstants.{PLACES}
use Rattle.md_cotree.specs.PlaceTrees.{PlaceTree, place_of, Stands}
use Rattle.md_cotree.specs.Orders.{AllLive}
use Rattle.md_cotree.proofs.Emitting.{IsEmission}
use Rattle.md_cotree.proofs.ordering.places.Given as goal

abbrev pub invariant-loop-place : goal.invariant-loop-place
invariant-loop-place g l = record {
  trees : (t : PlaceTree) → Stands l.lists t → place_of t ≡ l.root → IsEmission l.lists t l.places.items l.waiting.items;
  live : AllLive l.lists l.places.items;
}

abbrev pub decreases-loop-place : goal.decreases-loop-place
decreases-loop-place g l = PLACES - length l.places.items
