use Rattle.std.proofs.Common.{◌∙◌, refl, rules}
use Rattle.md_graph.proofs.SetLemmas.{clash}
use Rattle.md_graph.proofs.Walks.{Walked-start, Walked-item, Walked-more, Walked-end}
use Rattle.md_bar_tree.proofs.bar_at.some_crossing.Goals as goal

pub loop-q-init : goal.loop-q-init
loop-q-init g c =
    Walked-start (c.into_iter-q-iterator.ensures.into_iter_gives ∙ c.members-q-items.ensures.list) c.members-q-items.ensures.names

pub are_crossing-requires : goal.are_crossing-requires
are_crossing-requires g c =
    let item = Walked-item c.loop-q.invariant c.in-Some.q _ c.in-Some.ensures.steps in
    (search rules, (c.requires.vertex, c.requires.others c.in-Some.q item))

pub returns-then-are_crossing-clause-found : goal.returns-then-are_crossing-clause-found
returns-then-are_crossing-clause-found g c told =
    (c.in-Some.q, Walked-item c.loop-q.invariant c.in-Some.q _ c.in-Some.ensures.steps, c.if-are_crossing.ensures.found told)

pub loop-q-preserved : goal.loop-q-preserved
loop-q-preserved g c = Walked-more c.loop-q.invariant c.in-Some.q _ c.in-Some.ensures.steps (c.if-are_crossing.ensures.none (λ t. clash t refl))

pub returns-clause-none : goal.returns-clause-none
returns-clause-none g c told q member = Walked-end c.loop-q.invariant _ c.in-None.ensures.steps q member
