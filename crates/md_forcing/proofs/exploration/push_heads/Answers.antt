use Rattle.std.proofs.Common.{◌∙◌}
use Rattle.md_forcing.specs.Turns.{tail_entry}
use Rattle.md_forcing.proofs.Pushing.{pushing_start, pushing_more, pushing_end}
use Rattle.md_forcing.proofs.exploration.push_heads.Goals as goal

pub loop-head-init : goal.loop-head-init
loop-head-init g c =
    pushing_start (tail_entry c.args.tail c.args.place) _ _ _ (c.into_iter-head-iterator.ensures.into_iter_gives ∙ c.members-head-items.ensures.list)

pub loop-head-preserved : goal.loop-head-preserved
loop-head-preserved g c =
    pushing_more (tail_entry c.args.tail c.args.place) _ _ _ _ _ _ _ c.loop-head.invariant c.in-Some.ensures.steps c.in_ok-push.ensures

pub returns : goal.returns
returns g c = pushing_end (tail_entry c.args.tail c.args.place) _ _ _ _ c.loop-head.invariant c.in-None.ensures.steps.0
