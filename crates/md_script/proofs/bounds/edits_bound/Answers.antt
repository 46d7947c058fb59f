use Rattle.std.proofs.Common.{rules, sym, subst}
use Rattle.std.specs.List.{All}
use Rattle.std.proofs.lemmas.List.{take_all}
use Rattle.md_script.specs.Edit.{HasNamesBelow}
use Rattle.md_script.proofs.ChangeLemmas.{names_within}
use Rattle.md_script.proofs.BoundLemmas.{one_more_below}
use Rattle.md_script.proofs.bounds.edits_bound.Goals as goal

pub loop-edit-preserved : goal.loop-edit-preserved
loop-edit-preserved c = (
  one_more_below HasNamesBelow (λ limit more few. names_within few) c.args.edits.now c.loop-edit.edit-index c.edit-item.result c.edit_bound.result c.loop-edit.bound c.max-bound.result (search rules) c.edit-item.is (search rules) (search rules) c.edit_bound.ensures.below c.loop-edit.invariant.0,
  λ limit all. (let own = c.edit_bound.ensures.least limit (subst (HasNamesBelow limit) (sym c.edit-item.is) (all c.loop-edit.edit-index c.edit-item.result (search rules))) in let old = c.loop-edit.invariant.1 limit all in search rules),
)

pub returns-clause-below : goal.returns-clause-below
returns-clause-below c =
    subst (All (HasNamesBelow c.loop-edit.bound)) (take_all c.loop-edit.edit-index c.args.edits.now (search rules)) c.loop-edit.invariant.0
