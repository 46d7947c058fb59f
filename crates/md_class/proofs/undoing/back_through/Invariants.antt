use Rattle.std.proofs.Common.{◌≡◌, ◌≤◌, ◌*◌, List, [], ◌∷◌, vec_capacity}
use Rattle.md_cotree.specs.Cotrees.{Denotes}
use Rattle.md_script.specs.declared.edit.Edit.{Edit}
use Rattle.md_script.specs.Pasts.{taken_back}
use Rattle.md_script.proofs.GroupLemmas.{IsThrough, GivesAgain}
use Rattle.md_report.specs.Cographs.{IsCograph}
use Rattle.md_class.proofs.undoing.back_through.Given as goal

abbrev pub invariant-loop-left : goal.invariant-loop-left
invariant-loop-left g l = record {
  through : (last : List Edit) (others : List (List Edit)) → l.history.items ≡ last ∷ others → IsThrough (64 * g.row.W) IsCograph (taken_back l.fn.graph last) l.graph last l.left;
  again : (edits : List Edit) × (l.redo.items ≡ edits ∷ []) × GivesAgain (64 * g.row.W) IsCograph l.fn.graph l.graph edits;
  room : l.left ≤ l.redo.spare;
  denotes : Denotes l.tree l.graph;
  near : vec_capacity l.near ≡ vec_capacity l.fn.near;
}

abbrev pub decreases-loop-left : goal.decreases-loop-left
decreases-loop-left g l = l.left
