use Rattle.std.proofs.Common.{arith}
use Rattle.md_lists.specs.Links.{raised}
use Rattle.md_lists.proofs.Limits.{PLACES-lt}
use Rattle.md_lists.proofs.Showing.{live_items, same_room, shown, links_shown, tally_read}
use Rattle.md_lists.proofs.Marks.{marks_last, marks_count, raises_mark}
use Rattle.md_lists.proofs.lists.Lists.raise.Goals as goal

pub index-tally-requires : goal.index-tally-requires
index-tally-requires g c = (live_items c.self.inside c.args.self.now c.self.invariant c.self.view_is c.args.p c.requires.live).in_tallies

pub index-note-requires : goal.index-note-requires
index-note-requires g c = (live_items c.self.inside c.args.self.now c.self.invariant c.self.view_is c.args.p c.requires.live).in_notes

pub join-self-inside-requires-clause-last : goal.join-self-inside-requires-clause-last
join-self-inside-requires-clause-last g c = marks_last c.self.inside c.args.self.now c.self.invariant c.self.view_is

pub join-self-inside-requires-clause-place : goal.join-self-inside-requires-clause-place
join-self-inside-requires-clause-place g c = (live_items c.self.inside c.args.self.now c.self.invariant c.self.view_is c.args.p c.requires.live).in_mark_nexts

pub join-self-inside-requires-clause-count : goal.join-self-inside-requires-clause-count
join-self-inside-requires-clause-count g c = let few = marks_count c.self.inside c.args.self.now c.self.invariant c.self.view_is in let low = PLACES-lt in omega arith

pub overflow_add-tally : goal.overflow_add-tally
overflow_add-tally g c =
    let tally = tally_read c.self.inside c.args.self.now c.self.invariant c.self.view_is c.args.p c.requires.live _ c.index-tally.ensures in
    let room = c.requires.room in
    let low = PLACES-lt in
    omega arith

pub index_mut-requires : goal.index_mut-requires
index_mut-requires g c = (live_items c.self.inside c.args.self.now c.self.invariant c.self.view_is c.args.p c.requires.live).in_tallies

pub invariant_of-self : goal.invariant_of-self
invariant_of-self g c =
    let room = c.self.invariant.0 in
    ((room.0, room.1, room.2, room.3, room.4, room.5, room.6, same_room _ _ room.7 c.join-self-inside.ensures.capacity, room.8), (raised c.args.self.now c.args.p, raises_mark c.self.inside c.args.self.now c.self.invariant c.self.view_is c.args.p c.requires.live _ _ c.index-tally.ensures c.index-note.ensures _ _ c.join-self-inside.ensures.span c.join-self-inside.ensures.nexts))

pub returns-clause-raised : goal.returns-clause-raised
returns-clause-raised g c = shown _ _ (raises_mark c.self.inside c.args.self.now c.self.invariant c.self.view_is c.args.p c.requires.live _ _ c.index-tally.ensures c.index-note.ensures _ _ c.join-self-inside.ensures.span c.join-self-inside.ensures.nexts)

pub returns-clause-links : goal.returns-clause-links
returns-clause-links g c = links_shown _ _ (raises_mark c.self.inside c.args.self.now c.self.invariant c.self.view_is c.args.p c.requires.live _ _ c.index-tally.ensures c.index-note.ensures _ _ c.join-self-inside.ensures.span c.join-self-inside.ensures.nexts)
