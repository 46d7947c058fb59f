use Rattle.std.proofs.Common.{◌≡◌, ◌+◌, ◌≤◌, List, [], ◌∷◌, length}
use Rattle.md_script.specs.declared.edit.Edit.{Edit}
use Rattle.md_script.specs.Pasts.{AnyGraph, HasApplied}
use Rattle.md_script.proofs.groups.apply_all.Given as goal

abbrev pub invariant-loop-i : goal.invariant-loop-i
invariant-loop-i g l = record {
  done : (others : List (List Edit)) → l.fn.history.items ≡ [] ∷ others → (back : List Edit) × HasApplied AnyGraph l.fn.graph l.edits l.graph back l.i × (l.history.items ≡ back ∷ others);
  room : length l.edits ≤ l.i + l.history.spare;
}
