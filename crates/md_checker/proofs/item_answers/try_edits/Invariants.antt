use Rattle.std.proofs.Common.{◌≡◌, ◌+◌, ◌≤◌, List, [], ◌∷◌, length}
use Rattle.md_script.specs.declared.edit.Edit.{Edit}
use Rattle.md_script.specs.Pasts.{HasApplied}
use Rattle.md_report.specs.ItemLines.{IsAllowed}
use Rattle.md_checker.proofs.item_answers.try_edits.Given as goal

abbrev pub invariant-loop-i : goal.invariant-loop-i
invariant-loop-i g l = record {
  done : (others : List (List Edit)) → l.fn.history.items ≡ [] ∷ others → (back : List Edit) × HasApplied (IsAllowed l.mode) l.fn.graph l.edits l.graph back l.i × (l.history.items ≡ back ∷ others);
  allowed : IsAllowed l.mode l.graph;
  room : length l.edits ≤ l.i + l.history.spare;
}
