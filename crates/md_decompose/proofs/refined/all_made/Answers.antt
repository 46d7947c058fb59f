use Rattle.std.proofs.Common.{◌∷◌, ◌++◌, sym, ◌∙◌, ap}
use Rattle.md_decompose.proofs.RefinedLemmas.{none_left}
use Rattle.md_decompose.proofs.refined.all_made.Goals as goal

pub unreachable-requires : goal.unreachable-requires
unreachable-requires g c =
    none_left c.args.sets.items c.loop-set.yielded c.next.new.self.rest.items
    (ap (λ o. c.loop-set.yielded ++ o ∷ c.next.new.self.rest.items) (sym c.in_default.is) ∙ ap (λ xs. c.loop-set.yielded ++ xs) (sym c.in-Some.ensures.steps.0) ∙ c.loop-set.invariant.left ∙ c.into_iter-set-iterator.ensures.into_iter_gives.0)
    c.requires
