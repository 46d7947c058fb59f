use Rattle.std.proofs.Common.{◌≡◌, ℕ, ◌-◌, None}
use Rattle.md_lists.specs.declared.TheConstants.{PLACES}
use Rattle.md_lists.specs.Links.{parent_at, IsLive}
use Rattle.md_cotree.specs.Climbs.{Climbs}
use Rattle.md_cotree.proofs.Ways.{IsBelow}
use Rattle.md_cotree.proofs.adjacency.depth.Given as goal

abbrev pub invariant-loop-parent : goal.invariant-loop-parent
invariant-loop-parent g l = record {
  live : IsLive l.lists l.place;
  way : (n r : ℕ) → Climbs l.lists n l.p r → parent_at l.lists r ≡ None → IsBelow l.lists l.p l.place l.depth n r;
}

abbrev pub decreases-loop-parent : goal.decreases-loop-parent
decreases-loop-parent g l = PLACES - l.depth
