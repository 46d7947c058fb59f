use Rattle.std.proofs.Common.{◌<◌, ◌≤◌, arith}
use Rattle.md_graph.specs.declared.TheConstants.{NAMES}
use Rattle.md_decompose.proofs.Heads.{head_room, heading_none, heading_turn, heading_place, no_heads}
use Rattle.md_decompose.proofs.quotient.heads_of.Goals as goal

pub loop-place-init : goal.loop-place-init
loop-place-init g c = heading_none c.args.sets.now c.none-heads.result c.args.places.now c.none-heads.ensures.value c.requires.room

pub returns-in_default : goal.returns-in_default
returns-in_default g c =
    no_heads c.args.sets.now c.requires.order c.loop-place.place c.index-sets-place.result c.requires.some c.loop-place-test.true c.index-sets-place.is c.in_default.ensures.none

pub overflow_cast-places : goal.overflow_cast-places
overflow_cast-places g c =
    let p : c.loop-place.place ≤ c.in-Some.head =
    heading_place c.args.sets.now c.requires.order c.loop-place.place c.in-Some.head c.index-sets-place.result c.loop-place.heads c.loop-place.places c.loop-place.invariant
    c.loop-place-test.true c.index-sets-place.is c.in-Some.ensures.found in
    let q : c.in-Some.head < NAMES = c.in-Some.ensures.name in
    omega arith

pub loop-place-preserved : goal.loop-place-preserved
loop-place-preserved g c =
    heading_turn c.args.sets.now c.requires.order c.loop-place.place c.in-Some.head c.index-sets-place.result c.loop-place.heads c.insert.new.self c.loop-place.places
    c.loop-place.invariant c.loop-place-test.true c.index-sets-place.is c.in-Some.ensures.found c.insert.ensures.changed

pub bounds-places-head : goal.bounds-places-head
bounds-places-head g c = head_room c.args.sets.now c.loop-place.place c.in-Some.head c.index-sets-place.result c.loop-place.heads c.loop-place.places c.loop-place.invariant c.loop-place-test.true c.index-sets-place.is c.in-Some.ensures.found
