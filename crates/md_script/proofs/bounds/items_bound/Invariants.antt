use Rattle.std.proofs.Common.{◌≤◌, ℕ, take}
use Rattle.std.specs.List.{All}
use Rattle.md_script.specs.Items.{HasItemNamesBelow}
use Rattle.md_script.proofs.bounds.items_bound.Given as goal

abbrev pub invariant-loop-item : goal.invariant-loop-item
invariant-loop-item l =
    (All (HasItemNamesBelow l.bound) (take l.item-index l.items)) × ((limit : ℕ) → All (HasItemNamesBelow limit) l.items → l.bound ≤ limit)
