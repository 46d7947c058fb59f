use Rattle.std.proofs.Common.{◌≡◌}
use Rattle.std.specs.FinSet as set
use Rattle.md_refine.specs.Slots.{names_placed}
use Rattle.md_refine.proofs.places.names_at.Given as goal

abbrev pub invariant-loop-v : goal.invariant-loop-v
invariant-loop-v l = l.names ≡ set.from_list (names_placed l.homes.items l.owners.items l.v l.place)
