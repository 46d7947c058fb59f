use Rattle.std.proofs.Common.{◌≤◌, ℕ, take}
use Rattle.std.specs.List.{All}
use Rattle.md_script.specs.Edit.{HasNamesBelow}
use Rattle.md_script.proofs.bounds.edits_bound.Given as goal

abbrev pub invariant-loop-edit : goal.invariant-loop-edit
invariant-loop-edit l =
    (All (HasNamesBelow l.bound) (take l.edit-index l.edits)) × ((limit : ℕ) → All (HasNamesBelow limit) l.edits → l.bound ≤ limit)
