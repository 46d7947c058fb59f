use Rattle.std.proofs.Common.{rules, sym, subst}
use Rattle.std.specs.List.{All}
use Rattle.std.proofs.lemmas.List.{take_all}
use Rattle.md_script.specs.Items.{HasItemNamesBelow}
use Rattle.md_script.proofs.BoundLemmas.{item_within, one_more_below}
use Rattle.md_script.proofs.bounds.items_bound.Goals as goal

pub loop-item-preserved : goal.loop-item-preserved
loop-item-preserved c = (
  one_more_below HasItemNamesBelow (λ limit more few. item_within few) c.args.items.now c.loop-item.item-index c.item-item.result c.item_bound.result c.loop-item.bound c.max-bound.result (search rules) c.item-item.is (search rules) (search rules) c.item_bound.ensures.below c.loop-item.invariant.0,
  λ limit all. (let own = c.item_bound.ensures.least limit (subst (HasItemNamesBelow limit) (sym c.item-item.is) (all c.loop-item.item-index c.item-item.result (search rules))) in let old = c.loop-item.invariant.1 limit all in search rules),
)

pub returns-clause-below : goal.returns-clause-below
returns-clause-below c =
    subst (All (HasItemNamesBelow c.loop-item.bound)) (take_all c.loop-item.item-index c.args.items.now (search rules)) c.loop-item.invariant.0
