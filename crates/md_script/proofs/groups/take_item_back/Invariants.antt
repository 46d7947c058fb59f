use Rattle.std.proofs.Common.{◌≡◌, ◌≤◌, ◌*◌, List, ◌∷◌}
use Rattle.md_script.specs.declared.edit.Edit.{Edit}
use Rattle.md_script.specs.Pasts.{taken_back, AnyGraph}
use Rattle.md_script.proofs.GroupLemmas.{last_length, IsGoingBack}
use Rattle.md_script.proofs.groups.take_item_back.Given as goal

abbrev pub invariant-loop-past : goal.invariant-loop-past
invariant-loop-past g l = record {
  going : (first : List Edit) (others : List (List Edit)) → l.fn.history.items ≡ first ∷ others → IsGoingBack (64 * g.row.W) AnyGraph (taken_back l.fn.graph first) l.graph l.history.items others;
  spare : l.fn.history.spare ≤ l.history.spare;
}

abbrev pub decreases-loop-past : goal.decreases-loop-past
decreases-loop-past g l = last_length l.history.items
