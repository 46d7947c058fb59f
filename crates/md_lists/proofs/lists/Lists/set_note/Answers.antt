use Rattle.std.proofs.Common.{arith}
use Rattle.md_lists.specs.Links.{noted}
use Rattle.md_lists.proofs.Limits.{PLACES-lt}
use Rattle.md_lists.proofs.Showing.{live_items, same_room, shown, links_shown}
use Rattle.md_lists.proofs.Marks.{marks_last, marks_count, notes_mark}
use Rattle.md_lists.proofs.lists.Lists.set_note.Goals as goal

pub index-requires : goal.index-requires
index-requires g c = (live_items c.self.inside c.args.self.now c.self.invariant c.self.view_is c.args.p c.requires.live).in_tallies

pub index-requires-2 : goal.index-requires-2
index-requires-2 g c = (live_items c.self.inside c.args.self.now c.self.invariant c.self.view_is c.args.p c.requires.live).in_notes

pub join-self-inside-requires-clause-last : goal.join-self-inside-requires-clause-last
join-self-inside-requires-clause-last g c = marks_last c.self.inside c.args.self.now c.self.invariant c.self.view_is

pub join-self-inside-requires-clause-place : goal.join-self-inside-requires-clause-place
join-self-inside-requires-clause-place g c = (live_items c.self.inside c.args.self.now c.self.invariant c.self.view_is c.args.p c.requires.live).in_mark_nexts

pub join-self-inside-requires-clause-count : goal.join-self-inside-requires-clause-count
join-self-inside-requires-clause-count g c = let few = marks_count c.self.inside c.args.self.now c.self.invariant c.self.view_is in let low = PLACES-lt in omega arith

pub index_mut-requires : goal.index_mut-requires
index_mut-requires g c = (live_items c.self.inside c.args.self.now c.self.invariant c.self.view_is c.args.p c.requires.live).in_notes

pub invariant_of-self : goal.invariant_of-self
invariant_of-self g c =
    let room = c.self.invariant.0 in
    ((room.0, room.1, room.2, room.3, room.4, room.5, room.6, same_room _ _ room.7 c.join-self-inside.ensures.capacity, room.8), (noted c.args.self.now c.args.p c.args.value, notes_mark c.self.inside c.args.self.now c.self.invariant c.self.view_is c.args.p c.requires.live _ _ c.index.ensures c.index-2.ensures _ _ c.join-self-inside.ensures.span c.join-self-inside.ensures.nexts c.args.value c.requires.some))

pub returns-clause-noted : goal.returns-clause-noted
returns-clause-noted g c = shown _ _ (notes_mark c.self.inside c.args.self.now c.self.invariant c.self.view_is c.args.p c.requires.live _ _ c.index.ensures c.index-2.ensures _ _ c.join-self-inside.ensures.span c.join-self-inside.ensures.nexts c.args.value c.requires.some)

pub returns-clause-links : goal.returns-clause-links
returns-clause-links g c = links_shown _ _ (notes_mark c.self.inside c.args.self.now c.self.invariant c.self.view_is c.args.p c.requires.live _ _ c.index.ensures c.index-2.ensures _ _ c.join-self-inside.ensures.span c.join-self-inside.ensures.nexts c.args.value c.requires.some)
