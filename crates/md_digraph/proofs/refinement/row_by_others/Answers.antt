use Rattle.std.proofs.Common.{◌∙◌, rules}
use Rattle.md_graph.proofs.Walks.{Walked-start, Walked-item, Walked-more, Walked-end}
use Rattle.md_digraph.proofs.refinement.row_by_others.Goals as goal

pub loop-p-init : goal.loop-p-init
loop-p-init g c = Walked-start (c.into_iter-p-iterator.ensures.into_iter_gives ∙ c.members-p-items.ensures.list) c.members-p-items.ensures.names

pub row_of-requires : goal.row_of-requires
row_of-requires g c =
    let member = Walked-item c.loop-p.invariant c.in-Some.p _ c.in-Some.ensures.steps in
    (search rules, (search rules, (c.requires.part c.in-Some.p member, (member, c.requires.apart))))

pub loop-p-preserved : goal.loop-p-preserved
loop-p-preserved g c = Walked-more c.loop-p.invariant c.in-Some.p _ c.in-Some.ensures.steps c.in_default.ensures.none

pub returns-clause-none : goal.returns-clause-none
returns-clause-none g c = λ p is. Walked-end c.loop-p.invariant _ c.in-None.ensures.steps p is.inside is
