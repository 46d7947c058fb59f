use Rattle.std.proofs.Common.{None, arith}
use Rattle.md_lists.specs.Links.{with_kind}
use Rattle.md_lists.specs.Kept.{store_of}
use Rattle.md_lists.proofs.Showing.{opened, live_items, shown, links_shown}
use Rattle.md_lists.proofs.KindChanges.{frees, spare_room}
use Rattle.md_lists.proofs.lists.Lists.free.Goals as goal

pub index_mut-requires : goal.index_mut-requires
index_mut-requires g c = (live_items c.self.inside c.args.self.now c.self.invariant c.self.view_is c.args.p c.requires.live).in_kinds

pub push_reserved-requires : goal.push_reserved-requires
push_reserved-requires g c =
    let room = spare_room (store_of c.self.inside) c.args.self.now (opened c.self.inside c.args.self.now c.self.invariant c.self.view_is) c.args.p c.requires.live in
    let long = c.self.inside.free.ok.0 in
    let wide = c.self.invariant.0 in
    omega arith

pub invariant_of-self : goal.invariant_of-self
invariant_of-self g c =
    let wide = c.self.invariant.0 in
    let same = c.push_reserved.ensures.capacity in
    (omega arith, (with_kind c.args.self.now c.args.p None, frees (store_of c.self.inside) c.args.self.now (opened c.self.inside c.args.self.now c.self.invariant c.self.view_is) _ c.args.p c.requires.live c.requires.bare c.push_reserved.ensures.items))

pub returns-clause-freed : goal.returns-clause-freed
returns-clause-freed g c = shown _ _ (frees (store_of c.self.inside) c.args.self.now (opened c.self.inside c.args.self.now c.self.invariant c.self.view_is) _ c.args.p c.requires.live c.requires.bare c.push_reserved.ensures.items)

pub returns-clause-links : goal.returns-clause-links
returns-clause-links g c = links_shown _ _ (frees (store_of c.self.inside) c.args.self.now (opened c.self.inside c.args.self.now c.self.invariant c.self.view_is) _ c.args.p c.requires.live c.requires.bare c.push_reserved.ensures.items)
