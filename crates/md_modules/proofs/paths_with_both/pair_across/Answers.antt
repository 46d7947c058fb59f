use Rattle.std.proofs.Common.{◌∙◌, rules}
use Rattle.md_graph.proofs.Walks.{Walked-start, Walked-item, Walked-more, Walked-end}
use Rattle.md_modules.proofs.paths_with_both.pair_across.Goals as goal

pub loop-m-init : goal.loop-m-init
loop-m-init g c =
    Walked-start (c.into_iter-m-iterator.ensures.into_iter_gives ∙ c.members-m-items.ensures.list) c.members-m-items.ensures.names

pub first_across-requires : goal.first_across-requires
first_across-requires g c =
    (search rules, (search rules, c.members-m-items.ensures.below _ (Walked-item c.loop-m.invariant c.in-Some.m _ c.in-Some.ensures.steps)))

pub returns-in-Some-first_across-clause-found : goal.returns-in-Some-first_across-clause-found
returns-in-Some-first_across-clause-found g c =
    (Walked-item c.loop-m.invariant c.in-Some.m _ c.in-Some.ensures.steps, c.in-Some-first_across.ensures.found.0, c.in-Some-first_across.ensures.found.1)

pub loop-m-preserved : goal.loop-m-preserved
loop-m-preserved g c = Walked-more c.loop-m.invariant c.in-Some.m _ c.in-Some.ensures.steps (record { none = c.in_default.ensures.none })

pub returns-clause-none : goal.returns-clause-none
returns-clause-none g c =
    λ m z hm hz mz. (Walked-end c.loop-m.invariant _ c.in-None.ensures.steps m hm).none z hz mz
