use Rattle.std.proofs.Common.{◌∙◌}
use Rattle.md_comparability.proofs.Listing.{row_start, row_more, row_end}
use Rattle.md_orient.proofs.orientation.list_row.Goals as goal

pub loop-head-init : goal.loop-head-init
loop-head-init g c =
    row_start c.args.tail _ _ _ (c.into_iter-head-iterator.ensures.into_iter_gives ∙ c.members-head-items.ensures.list)

pub loop-head-preserved : goal.loop-head-preserved
loop-head-preserved g c =
    row_more c.args.tail _ _ _ _ _ _ _ c.loop-head.invariant c.in-Some.ensures.steps c.in_ok-push.ensures.items

pub returns : goal.returns
returns g c = row_end c.args.tail _ _ _ _ c.loop-head.invariant c.in-None.ensures.steps.0
