use Rattle.md_modules.proofs.PathSearch.{if_some_map, if_none_map, found_apart, none_apart, found_joined, none_joined}
use Rattle.md_modules.proofs.induced_paths.first_across.Goals as goal

pub returns-then-value-clause-found : goal.returns-then-value-clause-found
returns-then-value-clause-found g c =
    if_some_map c.first_from.result _ _
    (found_apart c.row-row.ensures.graph c.args.m _ c.args.rest.now _ c.row-row.ensures.set c.args.value c.if-value.true c.minus.ensures.value)
    c.first_from.ensures.found

pub returns-then-value-clause-none : goal.returns-then-value-clause-none
returns-then-value-clause-none g c =
    if_none_map c.first_from.result _ _
    (none_apart c.row-row.ensures.graph c.args.m _ c.args.rest.now _ c.row-row.ensures.set c.args.value c.if-value.true c.minus.ensures.value)
    c.first_from.ensures.none

pub returns-clause-found : goal.returns-clause-found
returns-clause-found g c =
    if_some_map c.first_from-2.result _ _
    (found_joined c.row-row.ensures.graph c.args.m _ c.args.rest.now _ c.row-row.ensures.set c.args.value c.if-value.false c.and.ensures.value)
    c.first_from-2.ensures.found

pub returns-clause-none : goal.returns-clause-none
returns-clause-none g c =
    if_none_map c.first_from-2.result _ _
    (none_joined c.row-row.ensures.graph c.args.m _ c.args.rest.now _ c.row-row.ensures.set c.args.value c.if-value.false c.and.ensures.value)
    c.first_from-2.ensures.none
