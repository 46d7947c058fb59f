use Rattle.std.proofs.Common.{arith}
use Rattle.md_lists.specs.Links.{attached}
use Rattle.md_lists.proofs.Limits.{PLACES-lt}
use Rattle.md_lists.proofs.Showing.{live_items, same_room, shown, links_shown}
use Rattle.md_lists.proofs.Beside.{low_last, few_before, attaches_child}
use Rattle.md_lists.proofs.lists.Lists.attach.Goals as goal

pub index-span-requires : goal.index-span-requires
index-span-requires g c = (live_items c.self.inside c.args.self.now c.self.invariant c.self.view_is c.args.parent c.requires.parent).in_spans

pub link-requires : goal.link-requires
link-requires g c = low_last c.self.inside c.args.self.now c.self.invariant c.self.view_is c.args.parent c.requires.parent _ c.index-span.ensures

pub link-requires-2 : goal.link-requires-2
link-requires-2 g c = (live_items c.self.inside c.args.self.now c.self.invariant c.self.view_is c.args.child c.requires.child).in_previous

pub with_last-requires : goal.with_last-requires
with_last-requires g c = let few = few_before c.self.inside c.args.self.now c.self.invariant c.self.view_is c.args.parent c.requires.parent _ c.index-span.ensures in let low = PLACES-lt in omega arith

pub index_mut-requires : goal.index_mut-requires
index_mut-requires g c = (live_items c.self.inside c.args.self.now c.self.invariant c.self.view_is c.args.parent c.requires.parent).in_spans

pub index_mut-requires-2 : goal.index_mut-requires-2
index_mut-requires-2 g c = (live_items c.self.inside c.args.self.now c.self.invariant c.self.view_is c.args.child c.requires.child).in_parents

pub invariant_of-self : goal.invariant_of-self
invariant_of-self g c =
    let room = c.self.invariant.0 in
    ((room.0, room.1, room.2, same_room _ _ room.3 c.link.ensures.capacity, same_room _ _ room.4 c.link-2.ensures.capacity, room.5, room.6, room.7, room.8), (attached c.args.self.now c.args.parent c.args.child, attaches_child c.self.inside c.args.self.now c.self.invariant c.self.view_is c.args.parent c.requires.parent _ c.index-span.ensures c.args.child c.requires.child c.requires.loose _ _ _ c.with_last.ensures c.link.ensures.items c.link-2.ensures.items))

pub returns-clause-attached : goal.returns-clause-attached
returns-clause-attached g c = shown _ _ (attaches_child c.self.inside c.args.self.now c.self.invariant c.self.view_is c.args.parent c.requires.parent _ c.index-span.ensures c.args.child c.requires.child c.requires.loose _ _ _ c.with_last.ensures c.link.ensures.items c.link-2.ensures.items)

pub returns-clause-links : goal.returns-clause-links
returns-clause-links g c = links_shown _ _ (attaches_child c.self.inside c.args.self.now c.self.invariant c.self.view_is c.args.parent c.requires.parent _ c.index-span.ensures c.args.child c.requires.child c.requires.loose _ _ _ c.with_last.ensures c.link.ensures.items c.link-2.ensures.items)
