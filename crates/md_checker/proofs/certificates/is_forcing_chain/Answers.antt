use Rattle.std.proofs.Common.{rules, subst}
use Rattle.md_graph.proofs.SetLemmas.{clash}
use Rattle.md_forcing.specs.Sides.{adjacent_on}
use Rattle.md_comparability.specs.Walking.{IsClassOrChosen}
use Rattle.md_checker.proofs.Ordering.{refused}
use Rattle.md_checker.proofs.Leading.{whole_has_none, first_is, first_arc, not_begun, judged}
use Rattle.md_checker.proofs.certificates.is_forcing_chain.Goals as goal

pub returns-in-Whole : goal.returns-in-Whole
returns-in-Whole g c =
    refused (whole_has_none (adjacent_on c.args.side c.args.graph.now) c.in-Whole.field-0 (subst (IsClassOrChosen (adjacent_on c.args.side c.args.graph.now)) c.in-Whole.is c.in_ok-orient_classes.ensures.ending) c.args.chain.now)

pub returns-then-not-begins_with : goal.returns-then-not-begins_with
returns-then-not-begins_with g c =
    let e = adjacent_on c.args.side c.args.graph.now in
    let stopped = subst (IsClassOrChosen e) c.in-Stopped.is c.in_ok-orient_classes.ensures.ending in
    refused (not_begun e c.in-Stopped.trail stopped c.args.chain.now c.as_slice-list.result.now c.entry.result.0 c.as_slice-list.ensures
    (first_is e c.in-Stopped.trail stopped c.entry.result.0 c.entry.result.1 c.entry.ensures)
    (λ begun. clash (c.begins_with.ensures.1 begun) c.if-not-begins_with.true))

pub leads_back-requires : goal.leads_back-requires
leads_back-requires g c =
    let e = adjacent_on c.args.side c.args.graph.now in
    let stopped = subst (IsClassOrChosen e) c.in-Stopped.is c.in_ok-orient_classes.ensures.ending in
    let is = first_arc e c.in-Stopped.trail stopped c.entry.result.0 (first_is e c.in-Stopped.trail stopped c.entry.result.0 c.entry.result.1 c.entry.ensures) in
    (search rules, is)

pub returns : goal.returns
returns g c =
    let e = adjacent_on c.args.side c.args.graph.now in
    let stopped = subst (IsClassOrChosen e) c.in-Stopped.is c.in_ok-orient_classes.ensures.ending in
    judged e c.in-Stopped.trail stopped c.args.chain.now c.as_slice-list.result.now c.entry.result.0 c.as_slice-list.ensures
    (first_is e c.in-Stopped.trail stopped c.entry.result.0 c.entry.result.1 c.entry.ensures)
    (c.begins_with.ensures.0 c.if-not-begins_with.false) c.in_ok-back-in-Stopped.ensures
