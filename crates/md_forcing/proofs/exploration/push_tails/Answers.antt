use Rattle.std.proofs.Common.{◌∙◌}
use Rattle.md_forcing.specs.Turns.{head_entry}
use Rattle.md_forcing.proofs.Pushing.{pushing_start, pushing_more, pushing_end}
use Rattle.md_forcing.proofs.exploration.push_tails.Goals as goal

pub loop-tail-init : goal.loop-tail-init
loop-tail-init g c =
    pushing_start (head_entry c.args.head c.args.place) _ _ _ (c.into_iter-tail-iterator.ensures.into_iter_gives ∙ c.members-tail-items.ensures.list)

pub loop-tail-preserved : goal.loop-tail-preserved
loop-tail-preserved g c =
    pushing_more (head_entry c.args.head c.args.place) _ _ _ _ _ _ _ c.loop-tail.invariant c.in-Some.ensures.steps c.in_ok-push.ensures

pub returns : goal.returns
returns g c = pushing_end (head_entry c.args.head c.args.place) _ _ _ _ c.loop-tail.invariant c.in-None.ensures.steps.0
