use Rattle.std.proofs.Common.{◌≡◌, ◌+◌, ◌*◌, List, ◌∷◌, vec_capacity}
use Rattle.md_cotree.specs.Cotrees.{Denotes}
use Rattle.md_script.specs.declared.edit.Edit.{Edit}
use Rattle.md_script.specs.Pasts.{taken_back}
use Rattle.md_script.proofs.GroupLemmas.{last_length}
use Rattle.md_cograph.specs.EditCosts.{back_cost}
use Rattle.md_cograph.proofs.GoingBack.{IsGoingBackWithin}
use Rattle.md_cograph.proofs.last_item.take_back_item.Given as goal

abbrev pub invariant-loop-past : goal.invariant-loop-past
invariant-loop-past g l = record {
  going : (first : List Edit) (others : List (List Edit)) → l.fn.history.items ≡ first ∷ others → IsGoingBackWithin (64 * g.row.W) (taken_back l.fn.graph first) l.graph l.history.items others l.steps (l.fn.steps + back_cost l.fn.graph first);
  denotes : Denotes l.tree l.graph;
  near : vec_capacity l.near ≡ vec_capacity l.fn.near;
}

abbrev pub decreases-loop-past : goal.decreases-loop-past
decreases-loop-past g l = last_length l.history.items
