use Rattle.std.proofs.Common.{Some, refl, sym, subst, arith}
use Rattle.md_lists.specs.Links.{with_kind, IsBare}
use Rattle.md_lists.specs.Kept.{store_of}
use Rattle.md_lists.proofs.LinkLaws.{bare-with_kind}
use Rattle.md_lists.proofs.Showing.{opened, same_room, shown, links_shown}
use Rattle.md_lists.proofs.KindChanges.{makes}
use Rattle.md_lists.proofs.NextPlace.{made_below, fits_one_more, next_is_free, comes_next}
use Rattle.md_lists.proofs.lists.Lists.make.Goals as goal

pub index_mut-requires : goal.index_mut-requires
index_mut-requires g c = (makes (store_of c.self.inside) c.args.self.now (opened c.self.inside c.args.self.now c.self.invariant c.self.view_is) _ c.in-Some.place c.args.kind c.in-Some.ensures.items).0

pub invariant_of-self : goal.invariant_of-self
invariant_of-self g c =
    let room = c.self.invariant.0 in
    ((room.0, room.1, room.2, room.3, room.4, room.5, room.6, room.7, same_room _ _ room.8 c.pop.ensures.capacity), (with_kind c.args.self.now c.in-Some.place (Some c.args.kind), (makes (store_of c.self.inside) c.args.self.now (opened c.self.inside c.args.self.now c.self.invariant c.self.view_is) _ c.in-Some.place c.args.kind c.in-Some.ensures.items).2))

pub returns-in-Some-clause-place : goal.returns-in-Some-clause-place
returns-in-Some-clause-place g c = (makes (store_of c.self.inside) c.args.self.now (opened c.self.inside c.args.self.now c.self.invariant c.self.view_is) _ c.in-Some.place c.args.kind c.in-Some.ensures.items).1

pub returns-in-Some-clause-inside : goal.returns-in-Some-clause-inside
returns-in-Some-clause-inside g c =
    let few = (opened c.self.inside c.args.self.now c.self.invariant c.self.view_is).made_few in
    let low = (makes (store_of c.self.inside) c.args.self.now (opened c.self.inside c.args.self.now c.self.invariant c.self.view_is) _ c.in-Some.place c.args.kind c.in-Some.ensures.items).0 in
    omega arith

pub returns-in-Some-clause-made : goal.returns-in-Some-clause-made
returns-in-Some-clause-made g c = shown _ _ (makes (store_of c.self.inside) c.args.self.now (opened c.self.inside c.args.self.now c.self.invariant c.self.view_is) _ c.in-Some.place c.args.kind c.in-Some.ensures.items).2

pub returns-in-Some-clause-bare : goal.returns-in-Some-clause-bare
returns-in-Some-clause-bare g c =
    let links = (opened c.self.inside c.args.self.now c.self.invariant c.self.view_is).links in
    let m = makes (store_of c.self.inside) c.args.self.now (opened c.self.inside c.args.self.now c.self.invariant c.self.view_is) _ c.in-Some.place c.args.kind c.in-Some.ensures.items in
    subst (λ v. IsBare v c.in-Some.place) (sym (shown _ _ m.2)) (bare-with_kind c.args.self.now links c.in-Some.place (Some c.args.kind) c.in-Some.place (links.bare c.in-Some.place m.1))

pub returns-in-Some-clause-links : goal.returns-in-Some-clause-links
returns-in-Some-clause-links g c = links_shown _ _ (makes (store_of c.self.inside) c.args.self.now (opened c.self.inside c.args.self.now c.self.invariant c.self.view_is) _ c.in-Some.place c.args.kind c.in-Some.ensures.items).2

pub push_reserved-requires : goal.push_reserved-requires
push_reserved-requires g c = (fits_one_more c.self.inside c.args.self.now c.self.invariant c.self.view_is c.pop.result c.in_default.is c.pop.ensures.variant.1 c.requires).in_kinds

pub push_reserved-requires-2 : goal.push_reserved-requires-2
push_reserved-requires-2 g c = (fits_one_more c.self.inside c.args.self.now c.self.invariant c.self.view_is c.pop.result c.in_default.is c.pop.ensures.variant.1 c.requires).in_parents

pub push_reserved-requires-3 : goal.push_reserved-requires-3
push_reserved-requires-3 g c = (fits_one_more c.self.inside c.args.self.now c.self.invariant c.self.view_is c.pop.result c.in_default.is c.pop.ensures.variant.1 c.requires).in_spans

pub push_reserved-requires-4 : goal.push_reserved-requires-4
push_reserved-requires-4 g c = (fits_one_more c.self.inside c.args.self.now c.self.invariant c.self.view_is c.pop.result c.in_default.is c.pop.ensures.variant.1 c.requires).in_nexts

pub push_reserved-requires-5 : goal.push_reserved-requires-5
push_reserved-requires-5 g c = (fits_one_more c.self.inside c.args.self.now c.self.invariant c.self.view_is c.pop.result c.in_default.is c.pop.ensures.variant.1 c.requires).in_previous

pub push_reserved-requires-6 : goal.push_reserved-requires-6
push_reserved-requires-6 g c = (fits_one_more c.self.inside c.args.self.now c.self.invariant c.self.view_is c.pop.result c.in_default.is c.pop.ensures.variant.1 c.requires).in_tallies

pub push_reserved-requires-7 : goal.push_reserved-requires-7
push_reserved-requires-7 g c = (fits_one_more c.self.inside c.args.self.now c.self.invariant c.self.view_is c.pop.result c.in_default.is c.pop.ensures.variant.1 c.requires).in_notes

pub push_reserved-requires-8 : goal.push_reserved-requires-8
push_reserved-requires-8 g c = (fits_one_more c.self.inside c.args.self.now c.self.invariant c.self.view_is c.pop.result c.in_default.is c.pop.ensures.variant.1 c.requires).in_mark_nexts

pub invariant_of-self-2 : goal.invariant_of-self-2
invariant_of-self-2 g c =
    let room = c.self.invariant.0 in
    ((same_room _ _ room.0 c.push_reserved.ensures.capacity, same_room _ _ room.1 c.push_reserved-2.ensures.capacity, same_room _ _ room.2 c.push_reserved-3.ensures.capacity, same_room _ _ room.3 c.push_reserved-4.ensures.capacity, same_room _ _ room.4 c.push_reserved-5.ensures.capacity, same_room _ _ room.5 c.push_reserved-6.ensures.capacity, same_room _ _ room.6 c.push_reserved-7.ensures.capacity, same_room _ _ room.7 c.push_reserved-8.ensures.capacity, same_room _ _ room.8 c.pop.ensures.capacity), (with_kind c.args.self.now c.len-place.result (Some c.args.kind), comes_next c.self.inside c.args.self.now c.self.invariant c.self.view_is c.pop.result c.in_default.is c.pop.ensures.variant.1 c.requires c.len-place.result c.len-place.ensures c.args.kind _ c.push_reserved.ensures.len c.push_reserved.ensures.items c.push_reserved-2.ensures.items _ c.empty.ensures c.push_reserved-3.ensures.items c.push_reserved-4.ensures.items c.push_reserved-5.ensures.items c.push_reserved-6.ensures.items c.push_reserved-7.ensures.items refl c.push_reserved-8.ensures.items c.pop.ensures.items))

pub returns-clause-place : goal.returns-clause-place
returns-clause-place g c = next_is_free c.self.inside c.args.self.now c.self.invariant c.self.view_is c.pop.result c.in_default.is c.pop.ensures.variant.1 c.requires c.len-place.result c.len-place.ensures c.args.kind

pub returns-clause-inside : goal.returns-clause-inside
returns-clause-inside g c = let low = made_below c.self.inside c.args.self.now c.self.invariant c.self.view_is c.pop.result c.in_default.is c.pop.ensures.variant.1 c.requires in let e = c.len-place.ensures in omega arith

pub returns-clause-made : goal.returns-clause-made
returns-clause-made g c = shown _ _ (comes_next c.self.inside c.args.self.now c.self.invariant c.self.view_is c.pop.result c.in_default.is c.pop.ensures.variant.1 c.requires c.len-place.result c.len-place.ensures c.args.kind _ c.push_reserved.ensures.len c.push_reserved.ensures.items c.push_reserved-2.ensures.items _ c.empty.ensures c.push_reserved-3.ensures.items c.push_reserved-4.ensures.items c.push_reserved-5.ensures.items c.push_reserved-6.ensures.items c.push_reserved-7.ensures.items refl c.push_reserved-8.ensures.items c.pop.ensures.items)

pub returns-clause-bare : goal.returns-clause-bare
returns-clause-bare g c =
    let links = (opened c.self.inside c.args.self.now c.self.invariant c.self.view_is).links in
    let free = next_is_free c.self.inside c.args.self.now c.self.invariant c.self.view_is c.pop.result c.in_default.is c.pop.ensures.variant.1 c.requires c.len-place.result c.len-place.ensures c.args.kind in
    subst (λ v. IsBare v c.len-place.result) (sym (shown _ _ (comes_next c.self.inside c.args.self.now c.self.invariant c.self.view_is c.pop.result c.in_default.is c.pop.ensures.variant.1 c.requires c.len-place.result c.len-place.ensures c.args.kind _ c.push_reserved.ensures.len c.push_reserved.ensures.items c.push_reserved-2.ensures.items _ c.empty.ensures c.push_reserved-3.ensures.items c.push_reserved-4.ensures.items c.push_reserved-5.ensures.items c.push_reserved-6.ensures.items c.push_reserved-7.ensures.items refl c.push_reserved-8.ensures.items c.pop.ensures.items))) (bare-with_kind c.args.self.now links c.len-place.result (Some c.args.kind) c.len-place.result (links.bare c.len-place.result free))

pub returns-clause-links : goal.returns-clause-links
returns-clause-links g c = links_shown _ _ (comes_next c.self.inside c.args.self.now c.self.invariant c.self.view_is c.pop.result c.in_default.is c.pop.ensures.variant.1 c.requires c.len-place.result c.len-place.ensures c.args.kind _ c.push_reserved.ensures.len c.push_reserved.ensures.items c.push_reserved-2.ensures.items _ c.empty.ensures c.push_reserved-3.ensures.items c.push_reserved-4.ensures.items c.push_reserved-5.ensures.items c.push_reserved-6.ensures.items c.push_reserved-7.ensures.items refl c.push_reserved-8.ensures.items c.pop.ensures.items)
