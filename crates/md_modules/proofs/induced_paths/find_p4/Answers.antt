use Rattle.std.proofs.Common.{◌∙◌, inl, refl, rules}
use Rattle.md_graph.proofs.Walks.{Walked-start, Walked-along, Walked-item, Walked-more, Walked-end}
use Rattle.md_modules.proofs.induced_paths.find_p4.Goals as goal

pub loop-x-init : goal.loop-x-init
loop-x-init g c =
    Walked-along c.vertices-vertices.ensures.set
    (Walked-start (c.into_iter-x-iterator.ensures.into_iter_gives ∙ c.members-x-items.ensures.list) c.members-x-items.ensures.names)

pub find_p4_with-requires : goal.find_p4_with-requires
find_p4_with-requires g c = (search rules, Walked-item c.loop-x.invariant c.in-Some.x _ c.in-Some.ensures.steps)

pub returns-in-Some-find_p4_with-clause-found : goal.returns-in-Some-find_p4_with-clause-found
returns-in-Some-find_p4_with-clause-found g c = c.in-Some-find_p4_with.ensures.found.path

pub loop-x-preserved : goal.loop-x-preserved
loop-x-preserved g c = Walked-more c.loop-x.invariant c.in-Some.x _ c.in-Some.ensures.steps (record { none = c.in_default.ensures.none })

pub returns-clause-none : goal.returns-clause-none
returns-clause-none g c =
    λ w. (Walked-end c.loop-x.invariant _ c.in-None.ensures.steps w.0 w.4.inside.0).none w.0 w.1 w.2 w.3 (record { path = w.4; holds = inl refl })
