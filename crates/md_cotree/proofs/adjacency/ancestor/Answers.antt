use Rattle.md_cotree.proofs.Ways.{below_begin, below_next, below_more, below_top}
use Rattle.md_cotree.proofs.adjacency.ancestor.Goals as goal

pub loop-step-init : goal.loop-step-init
loop-step-init g c = λ a way. below_begin _ _ _ _ way

pub parent_of-place-requires-clause-parent : goal.parent_of-place-requires-clause-parent
parent_of-place-requires-clause-parent g c = below_next _ _ _ _ _ _ (c.loop-step.invariant c.requires.way.0 c.requires.way.1) c.loop-step-test.true

pub loop-step-preserved : goal.loop-step-preserved
loop-step-preserved g c = λ a way. below_more _ _ _ _ _ _ _ (c.loop-step.invariant a way) c.parent_of-place.ensures.parent c.loop-step-test.true

pub returns : goal.returns
returns g c = λ a way. below_top _ _ _ _ _ _ (c.loop-step.invariant a way) c.loop-step-test.false
