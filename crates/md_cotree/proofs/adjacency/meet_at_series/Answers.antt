use Rattle.std.proofs.Common.{arith}
use Rattle.md_cotree.proofs.Ways.{meeting_begin, meeting_left, meeting_right, meeting_top, meeting_more, meeting_end}
use Rattle.md_cotree.proofs.adjacency.meet_at_series.Goals as goal

pub loop-step-init : goal.loop-step-init
loop-step-init g c = λ n b m. meeting_begin _ _ _ _ _ m

pub parent_of-x-requires-clause-parent : goal.parent_of-x-requires-clause-parent
parent_of-x-requires-clause-parent g c = let w = c.requires.ways in meeting_left _ _ _ _ _ _ (c.loop-step.invariant w.0 w.1 w.2)

pub parent_of-y-requires-clause-parent : goal.parent_of-y-requires-clause-parent
parent_of-y-requires-clause-parent g c = let w = c.requires.ways in meeting_right _ _ _ _ _ _ (c.loop-step.invariant w.0 w.1 w.2)

pub is_series-requires : goal.is_series-requires
is_series-requires g c =
    let w = c.requires.ways in
    (w.1, meeting_top _ _ _ _ _ c.parent_of-x.ensures.parent c.parent_of-y.ensures.parent _ _ w.1 (c.loop-step.invariant w.0 w.1 w.2) c.if-x-y.true)

pub returns-then-x-y : goal.returns-then-x-y
returns-then-x-y g c =
    λ n b m. c.is_series.ensures b (meeting_top _ _ _ _ _ c.parent_of-x.ensures.parent c.parent_of-y.ensures.parent _ _ b (c.loop-step.invariant n b m) c.if-x-y.true)

pub loop-step-preserved : goal.loop-step-preserved
loop-step-preserved g c = λ n b m. meeting_more _ _ _ _ _ c.parent_of-x.ensures.parent c.parent_of-y.ensures.parent _ _ b (c.loop-step.invariant n b m) c.if-x-y.false

pub returns : goal.returns
returns g c =
    let w = c.requires.ways in
    let past = meeting_end _ _ _ _ _ _ (c.loop-step.invariant w.0 w.1 w.2) in
    let low = w.3 in
    absurd (omega arith)
