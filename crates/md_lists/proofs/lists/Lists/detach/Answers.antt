use Rattle.std.proofs.Common.{None, set, ◌∙◌, ap, arith}
use Rattle.md_lists.specs.Links.{detached}
use Rattle.md_lists.proofs.Showing.{same_room, shown, links_shown}
use Rattle.md_lists.proofs.Beside.{child_items, not_none, owner_only, owner_items, low_before, low_after, some_children, detaches_child}
use Rattle.md_lists.proofs.lists.Lists.detach.Goals as goal

pub index-requires : goal.index-requires
index-requires g c = (child_items c.self.inside c.args.self.now c.self.invariant c.self.view_is c.args.child c.requires).in_previous

pub index-requires-2 : goal.index-requires-2
index-requires-2 g c = (child_items c.self.inside c.args.self.now c.self.invariant c.self.view_is c.args.child c.requires).in_nexts

pub index-requires-3 : goal.index-requires-3
index-requires-3 g c = (child_items c.self.inside c.args.self.now c.self.invariant c.self.view_is c.args.child c.requires).in_parents

pub index-span-requires : goal.index-span-requires
index-span-requires g c = (owner_items c.self.inside c.args.self.now c.self.invariant c.self.view_is c.args.child c.requires _ c.in-Some.parent c.index-3.ensures c.in-Some.is).in_spans

pub link-requires : goal.link-requires
link-requires g c = low_before c.self.inside c.args.self.now c.self.invariant c.self.view_is c.args.child c.requires _ c.in-Some.parent c.index-3.ensures c.in-Some.is _ c.index.ensures

pub link-requires-in-Some : goal.link-requires-in-Some
link-requires-in-Some g c = let w = (child_items c.self.inside c.args.self.now c.self.invariant c.self.view_is c.args.child c.requires).in_nexts in let e = c.link.ensures.len in omega arith

pub link-requires-in-Some-2 : goal.link-requires-in-Some-2
link-requires-in-Some-2 g c = low_after c.self.inside c.args.self.now c.self.invariant c.self.view_is c.args.child c.requires _ c.in-Some.parent c.index-3.ensures c.in-Some.is _ c.index-2.ensures

pub without-requires : goal.without-requires
without-requires g c = some_children c.self.inside c.args.self.now c.self.invariant c.self.view_is c.args.child c.requires _ c.in-Some.parent c.index-3.ensures c.in-Some.is _ c.index-span.ensures

pub index_mut-requires : goal.index_mut-requires
index_mut-requires g c = (owner_items c.self.inside c.args.self.now c.self.invariant c.self.view_is c.args.child c.requires _ c.in-Some.parent c.index-3.ensures c.in-Some.is).in_spans

pub index_mut-requires-in-Some : goal.index_mut-requires-in-Some
index_mut-requires-in-Some g c = (child_items c.self.inside c.args.self.now c.self.invariant c.self.view_is c.args.child c.requires).in_parents

pub invariant_of-self : goal.invariant_of-self
invariant_of-self g c =
    let room = c.self.invariant.0 in
    ((room.0, room.1, room.2, same_room _ _ room.3 (c.link-in-Some.ensures.capacity ∙ c.link.ensures.capacity), same_room _ _ room.4 c.link-in-Some-2.ensures.capacity, room.5, room.6, room.7, room.8), (detached c.args.self.now c.in-Some.parent c.args.child, detaches_child c.self.inside c.args.self.now c.self.invariant c.self.view_is c.args.child c.requires _ c.in-Some.parent c.index-3.ensures c.in-Some.is _ _ _ _ _ _ c.index.ensures c.index-2.ensures c.index-span.ensures c.without.ensures (c.link-in-Some.ensures.items ∙ ap (λ z. set z c.args.child None) c.link.ensures.items) c.link-in-Some-2.ensures.items))

pub unreachable-requires : goal.unreachable-requires
unreachable-requires g c = not_none c.self.inside c.args.self.now c.self.invariant c.self.view_is c.args.child c.requires _ c.index-3.ensures c.in-None.is

pub returns-clause-detached : goal.returns-clause-detached
returns-clause-detached g c = λ q is. shown _ _ (detaches_child c.self.inside c.args.self.now c.self.invariant c.self.view_is c.args.child c.requires _ c.in-Some.parent c.index-3.ensures c.in-Some.is _ _ _ _ _ _ c.index.ensures c.index-2.ensures c.index-span.ensures c.without.ensures (c.link-in-Some.ensures.items ∙ ap (λ z. set z c.args.child None) c.link.ensures.items) c.link-in-Some-2.ensures.items) ∙ ap (λ z. detached c.args.self.now z c.args.child) (owner_only c.self.inside c.args.self.now c.self.invariant c.self.view_is c.args.child c.requires _ c.in-Some.parent c.index-3.ensures c.in-Some.is q is)

pub returns-clause-links : goal.returns-clause-links
returns-clause-links g c = links_shown _ _ (detaches_child c.self.inside c.args.self.now c.self.invariant c.self.view_is c.args.child c.requires _ c.in-Some.parent c.index-3.ensures c.in-Some.is _ _ _ _ _ _ c.index.ensures c.index-2.ensures c.index-span.ensures c.without.ensures (c.link-in-Some.ensures.items ∙ ap (λ z. set z c.args.child None) c.link.ensures.items) c.link-in-Some-2.ensures.items)
