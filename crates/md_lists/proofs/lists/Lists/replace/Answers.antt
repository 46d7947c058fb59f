use Rattle.std.proofs.Common.{Some, None, is_some, set, ◌∙◌, ap, arith}
use Rattle.md_lists.specs.Links.{replaced}
use Rattle.md_lists.proofs.Showing.{live_items, same_room, shown, links_shown}
use Rattle.md_lists.proofs.Beside.{child_items, not_none, owner_only, owner_items, low_before, low_after, replaces_child}
use Rattle.md_lists.proofs.lists.Lists.replace.Goals as goal

pub index-requires : goal.index-requires
index-requires g c = (child_items c.self.inside c.args.self.now c.self.invariant c.self.view_is c.args.old (ap is_some c.requires.parent.1)).in_previous

pub index-requires-2 : goal.index-requires-2
index-requires-2 g c = (child_items c.self.inside c.args.self.now c.self.invariant c.self.view_is c.args.old (ap is_some c.requires.parent.1)).in_nexts

pub index-requires-3 : goal.index-requires-3
index-requires-3 g c = (child_items c.self.inside c.args.self.now c.self.invariant c.self.view_is c.args.old (ap is_some c.requires.parent.1)).in_parents

pub index-span-requires : goal.index-span-requires
index-span-requires g c = (owner_items c.self.inside c.args.self.now c.self.invariant c.self.view_is c.args.old (ap is_some c.requires.parent.1) _ c.in-Some.parent c.index-3.ensures c.in-Some.is).in_spans

pub link-requires : goal.link-requires
link-requires g c = low_before c.self.inside c.args.self.now c.self.invariant c.self.view_is c.args.old (ap is_some c.requires.parent.1) _ c.in-Some.parent c.index-3.ensures c.in-Some.is _ c.index.ensures

pub link-requires-in-Some : goal.link-requires-in-Some
link-requires-in-Some g c = let w = (live_items c.self.inside c.args.self.now c.self.invariant c.self.view_is c.args.new c.requires.new).in_nexts in let e = c.link.ensures.len in omega arith

pub link-requires-in-Some-2 : goal.link-requires-in-Some-2
link-requires-in-Some-2 g c = let w = (child_items c.self.inside c.args.self.now c.self.invariant c.self.view_is c.args.old (ap is_some c.requires.parent.1)).in_nexts in let e = c.link.ensures.len in let f = c.link-in-Some.ensures.len in omega arith

pub link-requires-in-Some-3 : goal.link-requires-in-Some-3
link-requires-in-Some-3 g c = low_after c.self.inside c.args.self.now c.self.invariant c.self.view_is c.args.old (ap is_some c.requires.parent.1) _ c.in-Some.parent c.index-3.ensures c.in-Some.is _ c.index-2.ensures

pub link-requires-in-Some-4 : goal.link-requires-in-Some-4
link-requires-in-Some-4 g c = let w = (live_items c.self.inside c.args.self.now c.self.invariant c.self.view_is c.args.new c.requires.new).in_previous in let e = c.link-in-Some-3.ensures.len in omega arith

pub index_mut-requires : goal.index_mut-requires
index_mut-requires g c = (owner_items c.self.inside c.args.self.now c.self.invariant c.self.view_is c.args.old (ap is_some c.requires.parent.1) _ c.in-Some.parent c.index-3.ensures c.in-Some.is).in_spans

pub link-requires-in-Some-5 : goal.link-requires-in-Some-5
link-requires-in-Some-5 g c = (child_items c.self.inside c.args.self.now c.self.invariant c.self.view_is c.args.old (ap is_some c.requires.parent.1)).in_parents

pub link-requires-in-Some-6 : goal.link-requires-in-Some-6
link-requires-in-Some-6 g c = let w = (live_items c.self.inside c.args.self.now c.self.invariant c.self.view_is c.args.new c.requires.new).in_parents in let e = c.link-in-Some-5.ensures.len in omega arith

pub invariant_of-self : goal.invariant_of-self
invariant_of-self g c =
    let room = c.self.invariant.0 in
    ((room.0, same_room _ _ room.1 (c.link-in-Some-6.ensures.capacity ∙ c.link-in-Some-5.ensures.capacity), room.2, same_room _ _ room.3 (c.link-in-Some-2.ensures.capacity ∙ c.link-in-Some.ensures.capacity ∙ c.link.ensures.capacity), same_room _ _ room.4 (c.link-in-Some-4.ensures.capacity ∙ c.link-in-Some-3.ensures.capacity), room.5, room.6, room.7, room.8), (replaced c.args.self.now c.in-Some.parent c.args.old c.args.new, replaces_child c.self.inside c.args.self.now c.self.invariant c.self.view_is c.args.old (ap is_some c.requires.parent.1) _ c.in-Some.parent c.index-3.ensures c.in-Some.is c.args.new c.requires.new c.requires.loose _ _ _ _ _ _ _ (c.link-in-Some-6.ensures.items ∙ ap (λ z. set z c.args.new (Some c.in-Some.parent)) c.link-in-Some-5.ensures.items) c.index.ensures c.index-2.ensures c.index-span.ensures c.with_other.ensures (c.link-in-Some-2.ensures.items ∙ ap (λ z. set z c.args.old None) (c.link-in-Some.ensures.items ∙ ap (λ z. set z c.args.new c.index-2.result.now) c.link.ensures.items)) (c.link-in-Some-4.ensures.items ∙ ap (λ z. set z c.args.new c.index.result.now) c.link-in-Some-3.ensures.items)))

pub unreachable-requires : goal.unreachable-requires
unreachable-requires g c = not_none c.self.inside c.args.self.now c.self.invariant c.self.view_is c.args.old (ap is_some c.requires.parent.1) _ c.index-3.ensures c.in-None.is

pub returns-clause-replaced : goal.returns-clause-replaced
returns-clause-replaced g c = λ q is. shown _ _ (replaces_child c.self.inside c.args.self.now c.self.invariant c.self.view_is c.args.old (ap is_some c.requires.parent.1) _ c.in-Some.parent c.index-3.ensures c.in-Some.is c.args.new c.requires.new c.requires.loose _ _ _ _ _ _ _ (c.link-in-Some-6.ensures.items ∙ ap (λ z. set z c.args.new (Some c.in-Some.parent)) c.link-in-Some-5.ensures.items) c.index.ensures c.index-2.ensures c.index-span.ensures c.with_other.ensures (c.link-in-Some-2.ensures.items ∙ ap (λ z. set z c.args.old None) (c.link-in-Some.ensures.items ∙ ap (λ z. set z c.args.new c.index-2.result.now) c.link.ensures.items)) (c.link-in-Some-4.ensures.items ∙ ap (λ z. set z c.args.new c.index.result.now) c.link-in-Some-3.ensures.items)) ∙ ap (λ z. replaced c.args.self.now z c.args.old c.args.new) (owner_only c.self.inside c.args.self.now c.self.invariant c.self.view_is c.args.old (ap is_some c.requires.parent.1) _ c.in-Some.parent c.index-3.ensures c.in-Some.is q is)

pub returns-clause-links : goal.returns-clause-links
returns-clause-links g c = links_shown _ _ (replaces_child c.self.inside c.args.self.now c.self.invariant c.self.view_is c.args.old (ap is_some c.requires.parent.1) _ c.in-Some.parent c.index-3.ensures c.in-Some.is c.args.new c.requires.new c.requires.loose _ _ _ _ _ _ _ (c.link-in-Some-6.ensures.items ∙ ap (λ z. set z c.args.new (Some c.in-Some.parent)) c.link-in-Some-5.ensures.items) c.index.ensures c.index-2.ensures c.index-span.ensures c.with_other.ensures (c.link-in-Some-2.ensures.items ∙ ap (λ z. set z c.args.old None) (c.link-in-Some.ensures.items ∙ ap (λ z. set z c.args.new c.index-2.result.now) c.link.ensures.items)) (c.link-in-Some-4.ensures.items ∙ ap (λ z. set z c.args.new c.index.result.now) c.link-in-Some-3.ensures.items))
