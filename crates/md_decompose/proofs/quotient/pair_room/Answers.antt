use Rattle.std.proofs.Common.{◌∙◌, rules}
use Rattle.md_graph.proofs.Walks.{Walked-start, Walked-item, Walked-more}
use Rattle.md_decompose.proofs.quotient.pair_room.Goals as goal

pub loop-head-init : goal.loop-head-init
loop-head-init g c = Walked-start (c.into_iter-head-iterator.ensures.into_iter_gives ∙ c.members-head-items.ensures.list) c.members-head-items.ensures.names

pub row-requires : goal.row-requires
row-requires g c = (search rules, (search rules, c.members-head-items.ensures.below _ (Walked-item c.loop-head.invariant c.in-Some.head _ c.in-Some.ensures.steps)))

pub loop-head-preserved : goal.loop-head-preserved
loop-head-preserved g c = Walked-more c.loop-head.invariant c.in-Some.head _ c.in-Some.ensures.steps tt
