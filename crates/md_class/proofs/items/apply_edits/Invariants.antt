use Rattle.std.proofs.Common.{◌≡◌, ◌+◌, ◌≤◌, List, [], ◌∷◌, length, vec_capacity}
use Rattle.md_cotree.specs.Cotrees.{Denotes}
use Rattle.md_script.specs.declared.edit.Edit.{Edit}
use Rattle.md_script.specs.Pasts.{HasApplied}
use Rattle.md_report.specs.Classes.{IsAllowedIn}
use Rattle.md_class.proofs.items.apply_edits.Given as goal

abbrev pub invariant-loop-i : goal.invariant-loop-i
invariant-loop-i g l = record {
  done : (others : List (List Edit)) → l.fn.history.items ≡ [] ∷ others → (back : List Edit) × HasApplied (IsAllowedIn l.class) l.fn.graph l.edits l.graph back l.i × (l.history.items ≡ back ∷ others);
  room : length l.edits ≤ l.i + l.history.spare;
  allowed : IsAllowedIn l.class l.graph;
  denotes : Denotes l.tree l.graph;
  near : vec_capacity l.near ≡ vec_capacity l.fn.near;
}
