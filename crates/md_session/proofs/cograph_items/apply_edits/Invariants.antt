use Rattle.std.proofs.Common.{◌≡◌, ◌+◌, ◌≤◌, List, [], ◌∷◌, length, take}
use Rattle.md_cotree.specs.Cotrees.{Denotes}
use Rattle.md_script.specs.declared.edit.Edit.{Edit}
use Rattle.md_script.specs.Pasts.{HasApplied}
use Rattle.md_report.specs.Cographs.{IsCograph}
use Rattle.md_session.specs.Costs.{edits_cost}
use Rattle.md_session.proofs.cograph_items.apply_edits.Given as goal

abbrev pub invariant-loop-i : goal.invariant-loop-i
invariant-loop-i g l = record {
  done : (others : List (List Edit)) → l.fn.history.items ≡ [] ∷ others → (back : List Edit) × HasApplied IsCograph l.fn.graph l.edits l.graph back l.i × (l.history.items ≡ back ∷ others);
  room : length l.edits ≤ l.i + l.history.spare;
  cograph : IsCograph l.graph;
  denotes : Denotes l.tree l.graph;
  bound : l.steps ≤ l.fn.steps + edits_cost l.fn.graph (take l.i l.edits);
}
