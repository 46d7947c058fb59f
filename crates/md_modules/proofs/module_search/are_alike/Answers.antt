use Rattle.std.proofs.Common.{◌∙◌, refl, rules}
use Rattle.md_graph.proofs.SetLemmas.{clash}
use Rattle.md_modules.proofs.module_search.are_alike.Goals as goal
use Rattle.md_graph.proofs.Walks.{Walked-start, Walked-item, Walked-more, Walked-end}

pub loop-w-init : goal.loop-w-init
loop-w-init g c =
    Walked-start (c.into_iter-w-iterator.ensures.into_iter_gives ∙ c.members-w-items.ensures.list) c.members-w-items.ensures.names

pub see_alike-requires : goal.see_alike-requires
see_alike-requires g c =
    (search rules, (search rules, (c.requires, c.members-w-items.ensures.below _ (Walked-item c.loop-w.invariant c.in-Some.w _ c.in-Some.ensures.steps))))

pub returns-then-not-see_alike : goal.returns-then-not-see_alike
returns-then-not-see_alike g c = (
  λ f. clash f refl,
  λ alike. clash
      (c.see_alike.ensures.1 (alike c.in-Some.w (Walked-item c.loop-w.invariant c.in-Some.w _ c.in-Some.ensures.steps))) c.if-not-see_alike.true,
)

pub loop-w-preserved : goal.loop-w-preserved
loop-w-preserved g c =
    Walked-more c.loop-w.invariant c.in-Some.w _ c.in-Some.ensures.steps (c.see_alike.ensures.0 c.if-not-see_alike.false)

pub returns : goal.returns
returns g c = (λ t. Walked-end c.loop-w.invariant _ c.in-None.ensures.steps, λ alike. refl)
