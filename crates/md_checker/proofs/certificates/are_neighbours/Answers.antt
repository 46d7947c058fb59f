use Rattle.std.proofs.Common.{◌∙◌, ◌<◌, length, subst, sym, refl, inl, rules}
use Rattle.md_forcing.specs.Lists.{Holds}
use Rattle.md_checker.proofs.Ordering.{each_start}
use Rattle.md_checker.proofs.certificates.are_neighbours.Goals as goal

pub loop-v-init : goal.loop-v-init
loop-v-init g c =
    let each = each_start c.vertices.result.now c.args.graph.now.vertices _ (c.into_iter-v-iterator.ensures.into_iter_gives ∙ c.members-v-items.ensures.list) c.vertices.ensures.set c.members-v-items.ensures.names in
    record { within = λ v. (each v).0; passed = λ v h. inl ((each v).1 h) }

pub bounds-rows-v : goal.bounds-rows-v
bounds-rows-v g c =
    c.requires _ (c.loop-v.invariant.within _ (subst (λ l. Holds l c.in-Some.v) (sym c.in-Some.ensures.steps) (inl refl)))

pub offset_bounds-rows-v : goal.offset_bounds-rows-v
offset_bounds-rows-v g c =
    let here = c.loop-v.invariant.within _ (subst (λ l. Holds l c.in-Some.v) (sym c.in-Some.ensures.steps) (inl refl)) in
    let below : c.in-Some.v < length c.args.rows.now = c.requires _ here in
    let limit = c.vertices.ensures.limit in
    search rules

pub row-requires : goal.row-requires
row-requires g c =
    let here = c.loop-v.invariant.within _ (subst (λ l. Holds l c.in-Some.v) (sym c.in-Some.ensures.steps) (inl refl)) in
    (search rules, (search rules, c.vertices.ensures.below _ here))
