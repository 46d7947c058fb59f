use Rattle.std.proofs.Common.{arith}
use Rattle.md_cotree_edit.proofs.EdgeTurns.EdgeEdit.{left_there, right_there, turn_room, left_parent, right_parent, both_is, first_is, second_is, both_view, first_view, second_view, both_done, first_done, second_done, none_refused, refused}
use Rattle.md_cotree_edit.proofs.edges.turn.Goals as goal

pub leaf_of-left-requires : goal.leaf_of-left-requires
leaf_of-left-requires g c =
    left_there c.args.tree.now c.spare-spare.ensures.links c.args.u c.args.v c.args.series c.requires

pub leaf_of-right-requires : goal.leaf_of-right-requires
leaf_of-right-requires g c =
    right_there c.args.tree.now c.spare-spare.ensures.links c.args.u c.args.v c.args.series c.requires

pub meeting_of-requires-clause-left : goal.meeting_of-requires-clause-left
meeting_of-requires-clause-left g c =
    left_parent c.args.tree.now c.spare-spare.ensures.links c.args.u c.args.v c.args.series c.requires c.leaf_of-left.result c.leaf_of-right.result c.leaf_of-left.ensures c.leaf_of-right.ensures

pub meeting_of-requires-clause-right : goal.meeting_of-requires-clause-right
meeting_of-requires-clause-right g c =
    right_parent c.args.tree.now c.spare-spare.ensures.links c.args.u c.args.v c.args.series c.requires c.leaf_of-left.result c.leaf_of-right.result c.leaf_of-left.ensures c.leaf_of-right.ensures

pub turn_both-requires-clause-room : goal.turn_both-requires-clause-room
turn_both-requires-clause-room g c =
    let room = turn_room c.args.tree.now c.spare-spare.ensures.links c.args.u c.args.v c.args.series c.requires in omega arith

pub turn_one-requires-clause-room : goal.turn_one-requires-clause-room
turn_one-requires-clause-room g c =
    turn_room c.args.tree.now c.spare-spare.ensures.links c.args.u c.args.v c.args.series c.requires

pub turn_one-requires-in-Second-clause-room : goal.turn_one-requires-in-Second-clause-room
turn_one-requires-in-Second-clause-room g c =
    turn_room c.args.tree.now c.spare-spare.ensures.links c.args.u c.args.v c.args.series c.requires

pub turn_both-requires-clause-tree : goal.turn_both-requires-clause-tree
turn_both-requires-clause-tree g c =
    let at = both_is c.args.tree.now c.spare-spare.ensures.links c.args.u c.args.v c.args.series c.requires c.leaf_of-left.result c.leaf_of-right.result c.leaf_of-left.ensures c.leaf_of-right.ensures c.in-Both.place c.in-Both.ensures.meeting in
    ((both_view c.args.tree.now c.spare-spare.ensures.links c.args.u c.args.v c.args.series c.requires c.leaf_of-left.result c.leaf_of-right.result c.leaf_of-left.ensures c.leaf_of-right.ensures c.in-Both.place at), at.is)

pub turn_one-requires-clause-tree : goal.turn_one-requires-clause-tree
turn_one-requires-clause-tree g c =
    let at = first_is c.args.tree.now c.spare-spare.ensures.links c.args.u c.args.v c.args.series c.requires c.leaf_of-left.result c.leaf_of-right.result c.leaf_of-left.ensures c.leaf_of-right.ensures c.in-First.place c.in-First.child c.in-First.ensures.meeting in
    ((first_view c.args.tree.now c.spare-spare.ensures.links c.args.u c.args.v c.args.series c.requires c.leaf_of-left.result c.leaf_of-right.result c.leaf_of-left.ensures c.leaf_of-right.ensures c.in-First.place c.in-First.child at), at.is)

pub turn_one-requires-in-Second-clause-tree : goal.turn_one-requires-in-Second-clause-tree
turn_one-requires-in-Second-clause-tree g c =
    let at = second_is c.args.tree.now c.spare-spare.ensures.links c.args.u c.args.v c.args.series c.requires c.leaf_of-left.result c.leaf_of-right.result c.leaf_of-left.ensures c.leaf_of-right.ensures c.in-Second.place c.in-Second.child c.in-Second.ensures.meeting in
    ((second_view c.args.tree.now c.spare-spare.ensures.links c.args.u c.args.v c.args.series c.requires c.leaf_of-left.result c.leaf_of-right.result c.leaf_of-left.ensures c.leaf_of-right.ensures c.in-Second.place c.in-Second.child at), at.is)

pub returns-in-Both-clause-done : goal.returns-in-Both-clause-done
returns-in-Both-clause-done g c =
    let at = both_is c.args.tree.now c.spare-spare.ensures.links c.args.u c.args.v c.args.series c.requires c.leaf_of-left.result c.leaf_of-right.result c.leaf_of-left.ensures c.leaf_of-right.ensures c.in-Both.place c.in-Both.ensures.meeting in
    both_done c.args.tree.now c.spare-spare.ensures.links c.args.u c.args.v c.args.series c.requires c.leaf_of-left.result c.leaf_of-right.result c.leaf_of-left.ensures c.leaf_of-right.ensures
    c.turn_both.new.lists c.turn_both.ensures.links c.turn_both.ensures.unmarked c.in-Both.place at
    (c.turn_both.ensures.tree (both_view c.args.tree.now c.spare-spare.ensures.links c.args.u c.args.v c.args.series c.requires c.leaf_of-left.result c.leaf_of-right.result c.leaf_of-left.ensures c.leaf_of-right.ensures c.in-Both.place at) at.is)

pub returns-in-Both-clause-refused : goal.returns-in-Both-clause-refused
returns-in-Both-clause-refused g c =
    let at = both_is c.args.tree.now c.spare-spare.ensures.links c.args.u c.args.v c.args.series c.requires c.leaf_of-left.result c.leaf_of-right.result c.leaf_of-left.ensures c.leaf_of-right.ensures c.in-Both.place c.in-Both.ensures.meeting in
    none_refused c.args.tree.now c.spare-spare.ensures.links c.args.u c.args.v c.args.series c.requires c.leaf_of-left.result c.leaf_of-right.result c.leaf_of-left.ensures c.leaf_of-right.ensures
    c.turn_both.new.lists c.turn_both.ensures.links c.turn_both.ensures.unmarked
    (both_done c.args.tree.now c.spare-spare.ensures.links c.args.u c.args.v c.args.series c.requires c.leaf_of-left.result c.leaf_of-right.result c.leaf_of-left.ensures c.leaf_of-right.ensures
    c.turn_both.new.lists c.turn_both.ensures.links c.turn_both.ensures.unmarked c.in-Both.place at
    (c.turn_both.ensures.tree (both_view c.args.tree.now c.spare-spare.ensures.links c.args.u c.args.v c.args.series c.requires c.leaf_of-left.result c.leaf_of-right.result c.leaf_of-left.ensures c.leaf_of-right.ensures c.in-Both.place at) at.is))

pub returns-in-First-clause-done : goal.returns-in-First-clause-done
returns-in-First-clause-done g c =
    let at = first_is c.args.tree.now c.spare-spare.ensures.links c.args.u c.args.v c.args.series c.requires c.leaf_of-left.result c.leaf_of-right.result c.leaf_of-left.ensures c.leaf_of-right.ensures c.in-First.place c.in-First.child c.in-First.ensures.meeting in
    first_done c.args.tree.now c.spare-spare.ensures.links c.args.u c.args.v c.args.series c.requires c.leaf_of-left.result c.leaf_of-right.result c.leaf_of-left.ensures c.leaf_of-right.ensures
    c.turn_one.new.lists c.turn_one.ensures.links c.turn_one.ensures.unmarked c.in-First.place c.in-First.child at
    (c.turn_one.ensures.tree (first_view c.args.tree.now c.spare-spare.ensures.links c.args.u c.args.v c.args.series c.requires c.leaf_of-left.result c.leaf_of-right.result c.leaf_of-left.ensures c.leaf_of-right.ensures c.in-First.place c.in-First.child at) at.is)

pub returns-in-First-clause-refused : goal.returns-in-First-clause-refused
returns-in-First-clause-refused g c =
    let at = first_is c.args.tree.now c.spare-spare.ensures.links c.args.u c.args.v c.args.series c.requires c.leaf_of-left.result c.leaf_of-right.result c.leaf_of-left.ensures c.leaf_of-right.ensures c.in-First.place c.in-First.child c.in-First.ensures.meeting in
    none_refused c.args.tree.now c.spare-spare.ensures.links c.args.u c.args.v c.args.series c.requires c.leaf_of-left.result c.leaf_of-right.result c.leaf_of-left.ensures c.leaf_of-right.ensures
    c.turn_one.new.lists c.turn_one.ensures.links c.turn_one.ensures.unmarked
    (first_done c.args.tree.now c.spare-spare.ensures.links c.args.u c.args.v c.args.series c.requires c.leaf_of-left.result c.leaf_of-right.result c.leaf_of-left.ensures c.leaf_of-right.ensures
    c.turn_one.new.lists c.turn_one.ensures.links c.turn_one.ensures.unmarked c.in-First.place c.in-First.child at
    (c.turn_one.ensures.tree (first_view c.args.tree.now c.spare-spare.ensures.links c.args.u c.args.v c.args.series c.requires c.leaf_of-left.result c.leaf_of-right.result c.leaf_of-left.ensures c.leaf_of-right.ensures c.in-First.place c.in-First.child at) at.is))

pub returns-in-Second-clause-done : goal.returns-in-Second-clause-done
returns-in-Second-clause-done g c =
    let at = second_is c.args.tree.now c.spare-spare.ensures.links c.args.u c.args.v c.args.series c.requires c.leaf_of-left.result c.leaf_of-right.result c.leaf_of-left.ensures c.leaf_of-right.ensures c.in-Second.place c.in-Second.child c.in-Second.ensures.meeting in
    second_done c.args.tree.now c.spare-spare.ensures.links c.args.u c.args.v c.args.series c.requires c.leaf_of-left.result c.leaf_of-right.result c.leaf_of-left.ensures c.leaf_of-right.ensures
    c.turn_one-in-Second.new.lists c.turn_one-in-Second.ensures.links c.turn_one-in-Second.ensures.unmarked c.in-Second.place c.in-Second.child at
    (c.turn_one-in-Second.ensures.tree (second_view c.args.tree.now c.spare-spare.ensures.links c.args.u c.args.v c.args.series c.requires c.leaf_of-left.result c.leaf_of-right.result c.leaf_of-left.ensures c.leaf_of-right.ensures c.in-Second.place c.in-Second.child at) at.is)

pub returns-in-Second-clause-refused : goal.returns-in-Second-clause-refused
returns-in-Second-clause-refused g c =
    let at = second_is c.args.tree.now c.spare-spare.ensures.links c.args.u c.args.v c.args.series c.requires c.leaf_of-left.result c.leaf_of-right.result c.leaf_of-left.ensures c.leaf_of-right.ensures c.in-Second.place c.in-Second.child c.in-Second.ensures.meeting in
    none_refused c.args.tree.now c.spare-spare.ensures.links c.args.u c.args.v c.args.series c.requires c.leaf_of-left.result c.leaf_of-right.result c.leaf_of-left.ensures c.leaf_of-right.ensures
    c.turn_one-in-Second.new.lists c.turn_one-in-Second.ensures.links c.turn_one-in-Second.ensures.unmarked
    (second_done c.args.tree.now c.spare-spare.ensures.links c.args.u c.args.v c.args.series c.requires c.leaf_of-left.result c.leaf_of-right.result c.leaf_of-left.ensures c.leaf_of-right.ensures
    c.turn_one-in-Second.new.lists c.turn_one-in-Second.ensures.links c.turn_one-in-Second.ensures.unmarked c.in-Second.place c.in-Second.child at
    (c.turn_one-in-Second.ensures.tree (second_view c.args.tree.now c.spare-spare.ensures.links c.args.u c.args.v c.args.series c.requires c.leaf_of-left.result c.leaf_of-right.result c.leaf_of-left.ensures c.leaf_of-right.ensures c.in-Second.place c.in-Second.child at) at.is))

pub returns-in-Apart-clause-refused : goal.returns-in-Apart-clause-refused
returns-in-Apart-clause-refused g c =
    refused c.args.tree.now c.spare-spare.ensures.links c.args.u c.args.v c.args.series c.requires c.leaf_of-left.result c.leaf_of-right.result c.leaf_of-left.ensures c.leaf_of-right.ensures c.in-Apart.ensures.meeting
