use Rattle.std.proofs.Common.{◌∙◌, ap, sym, rules}
use Rattle.std.specs.FinSet.{intersection}
use Rattle.md_modules.proofs.PathSearch.{path_found, of_seen, seen_has, of_rest, NothingAcross-if}
use Rattle.md_graph.proofs.SetLemmas.{Has-along}
use Rattle.md_graph.proofs.Walks.{Walked-start, Walked-along, Walked-item, Walked-more, Walked-end}
use Rattle.md_modules.proofs.induced_paths.path_over.Goals as goal

pub loop-m-init : goal.loop-m-init
loop-m-init g c =
    Walked-along (c.and-seen.ensures.value ∙ ap (intersection c.args.part.now) c.row-row.ensures.set)
    (Walked-start (c.into_iter-m-iterator.ensures.into_iter_gives ∙ c.members-m-items.ensures.list) c.members-m-items.ensures.names)

pub first_across-requires : goal.first_across-requires
first_across-requires g c =
    let seen = c.and-seen.ensures.value ∙ ap (intersection c.args.part.now) c.row-row.ensures.set in
    let member = Has-along _ _ (sym seen) c.in-Some.m (Walked-item c.loop-m.invariant c.in-Some.m _ c.in-Some.ensures.steps) in
    (search rules, (search rules, c.members-m-items.ensures.below _ member))

pub returns-in-Some-first_across-clause-found : goal.returns-in-Some-first_across-clause-found
returns-in-Some-first_across-clause-found g c =
    let m = of_seen c.row-row.ensures.graph c.args.o c.args.part.now _ c.row-row.ensures.set c.in-Some.m (Walked-item c.loop-m.invariant c.in-Some.m _ c.in-Some.ensures.steps) in
    let z = of_rest c.row-row.ensures.graph c.args.o c.args.part.now _ c.row-row.ensures.set _ c.minus-rest.ensures.value c.in-Some-first_across.z c.in-Some-first_across.ensures.found.0 in
    path_found c.row-row.ensures.graph c.args.x c.args.o c.in-Some.m c.in-Some-first_across.z c.args.value c.requires.across
    (c.requires.alike c.in-Some.m m.0)
    (c.requires.alike c.in-Some-first_across.z z.0)
    c.in-Some-first_across.ensures.found.1 (record { sees = m.1; misses = z.1 }) c.path_through.result c.path_through.ensures.begun c.path_through.ensures.passed

pub loop-m-preserved : goal.loop-m-preserved
loop-m-preserved g c =
    Walked-more c.loop-m.invariant c.in-Some.m _ c.in-Some.ensures.steps
    (NothingAcross-if c.row-row.ensures.graph c.args.o c.args.part.now _ c.row-row.ensures.set _ c.minus-rest.ensures.value c.args.value c.in-Some.m c.in_default.ensures.none)

pub returns-clause-none : goal.returns-clause-none
returns-clause-none g c =
    λ m z hm hz mz told. (Walked-end c.loop-m.invariant _ c.in-None.ensures.steps m
    (seen_has c.row-row.ensures.graph c.args.o c.args.part.now _ c.row-row.ensures.set m hm told.sees)).none z hz mz told
