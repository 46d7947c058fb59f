use Rattle.std.proofs.Common.{◌∙◌, refl, rules}
use Rattle.md_modules.proofs.ClassLemmas.{splitter_found, splitter_none, no_splitter}
use Rattle.md_modules.proofs.refinement.splitter_of_few.Goals as goal
use Rattle.md_graph.proofs.Walks.{Walked-item, Walked-more, Walked-end, Walked-behind}

pub loop-x-init : goal.loop-x-init
loop-x-init g c =
    Walked-behind c.in-Some.first c.in-Some.ensures.found c.members_from-x-items.ensures.names
    (c.into_iter-x-iterator.ensures.into_iter_gives ∙ c.members_from-x-items.ensures.list) (λ y h. refl)

pub neighbours-requires : goal.neighbours-requires
neighbours-requires g c = (search rules, (search rules, c.requires.inside _ (Walked-item c.loop-x.invariant c.in-Some-x.x _ c.in-Some-x.ensures.steps)))

pub returns-in-Some-first_in_symmetric_difference-clause-found : goal.returns-in-Some-first_in_symmetric_difference-clause-found
returns-in-Some-first_in_symmetric_difference-clause-found g c =
    splitter_found c.neighbours-row.ensures.graph c.args.class.now c.neighbours-row.result.now c.neighbours.result.now c.args.left.now
    c.in-Some.first c.in-Some-x.x c.in-Some-first_in_symmetric_difference.p c.in-Some.ensures.found.member
    (Walked-item c.loop-x.invariant c.in-Some-x.x _ c.in-Some-x.ensures.steps)
    c.requires.apart c.neighbours-row.ensures.set c.neighbours.ensures.set c.in-Some-first_in_symmetric_difference.ensures.found

pub loop-x-preserved : goal.loop-x-preserved
loop-x-preserved g c =
    Walked-more c.loop-x.invariant c.in-Some-x.x _ c.in-Some-x.ensures.steps
    (splitter_none c.neighbours-row.ensures.graph c.neighbours-row.result.now c.neighbours.result.now c.args.left.now c.in-Some.first c.in-Some-x.x
    c.neighbours-row.ensures.set c.neighbours.ensures.set c.in_default-first_in_symmetric_difference.ensures.none)

pub returns-clause-none : goal.returns-clause-none
returns-clause-none g c =
    no_splitter c.vertices-vertices.ensures.graph c.args.class.now c.args.left.now c.in-Some.first (Walked-end c.loop-x.invariant _ c.in-None.ensures.steps)
