use Rattle.std.proofs.Common.{not, is_some, ◌∙◌, ap, arith, refl}
use Rattle.md_cotree.specs.PlaceTrees.{tip}
use Rattle.md_cotree_edit.proofs.EdgeTurns.LiftedLeaves.{one_first, one_second, one_third, one_spare, one_marks, some_beside, after_tidy, after_join, can_tidy, can_join, one_lift, one_can, one_lifted}
use Rattle.md_cotree_edit.proofs.ends.turn_one.Goals as goal

pub detach-requires : goal.detach-requires
detach-requires g c =
    ap is_some (one_first c.args.lists.now c.requires.links c.args.place c.args.left c.args.child c.args.right c.args.series c.requires.tree.0 c.requires.tree.1)

pub detach-requires-2 : goal.detach-requires-2
detach-requires-2 g c =
    ap is_some (one_second c.args.lists.now c.requires.links c.args.place c.args.left c.args.child c.args.right c.args.series c.requires.tree.0 c.requires.tree.1
    c.detach.new.self c.detach.ensures.links c.detach.ensures.detached)

pub detach-requires-3 : goal.detach-requires-3
detach-requires-3 g c =
    ap is_some (one_third c.args.lists.now c.requires.links c.args.place c.args.left c.args.child c.args.right c.args.series c.requires.tree.0 c.requires.tree.1
    c.detach.new.self c.detach.ensures.links c.detach.ensures.detached c.detach-2.new.self c.detach-2.ensures.links c.detach-2.ensures.detached)

pub tidy-rest-requires-clause-unmarked : goal.tidy-rest-requires-clause-unmarked
tidy-rest-requires-clause-unmarked g c =
    one_marks c.args.lists.now c.requires.links c.args.place c.args.left c.args.child c.args.right c.args.series c.requires.tree.0 c.requires.tree.1
    c.detach.new.self c.detach.ensures.links c.detach.ensures.detached c.detach-2.new.self c.detach-2.ensures.links c.detach-2.ensures.detached c.detach-3.new.self c.detach-3.ensures.links c.detach-3.ensures.detached
    ∙ c.requires.unmarked

pub tidy-rest-requires-clause-trees : goal.tidy-rest-requires-clause-trees
tidy-rest-requires-clause-trees g c =
    let d = c.requires.tree.0 in (
      not c.args.series,
      d.beside,
      after_tidy c.args.place c.args.left c.args.right c.args.series d,
      (can_tidy c.args.lists.now c.requires.links c.args.place c.args.left c.args.child c.args.right c.args.series d c.requires.tree.1
          c.detach.new.self c.detach.ensures.links c.detach.ensures.detached c.detach-2.new.self c.detach-2.ensures.links c.detach-2.ensures.detached c.detach-3.new.self c.detach-3.ensures.links c.detach-3.ensures.detached),
      some_beside c.args.lists.now c.requires.links c.args.place c.args.left c.args.child c.args.right c.args.series c.requires.tree.0 c.requires.tree.1,
    )

pub join-node-requires-clause-room : goal.join-node-requires-clause-room
join-node-requires-clause-room g c =
    let same = one_spare c.args.lists.now c.requires.links c.args.place c.args.left c.args.child c.args.right c.args.series c.requires.tree.0 c.requires.tree.1
    c.detach.new.self c.detach.ensures.links c.detach.ensures.detached c.detach-2.new.self c.detach-2.ensures.links c.detach-2.ensures.detached c.detach-3.new.self c.detach-3.ensures.links c.detach-3.ensures.detached in
    let low = c.tidy-rest.ensures.room in
    let had = c.requires.room in
    omega arith

pub join-node-requires-clause-trees : goal.join-node-requires-clause-trees
join-node-requires-clause-trees g c =
    let d = c.requires.tree.0 in
    let t = c.tidy-rest.ensures.trees (not c.args.series) d.beside (after_tidy c.args.place c.args.left c.args.right c.args.series d) (can_tidy c.args.lists.now c.requires.links c.args.place c.args.left c.args.child c.args.right c.args.series d c.requires.tree.1
    c.detach.new.self c.detach.ensures.links c.detach.ensures.detached c.detach-2.new.self c.detach-2.ensures.links c.detach-2.ensures.detached c.detach-3.new.self c.detach-3.ensures.links c.detach-3.ensures.detached) (some_beside c.args.lists.now c.requires.links c.args.place c.args.left c.args.child c.args.right c.args.series d c.requires.tree.1) in
    (t.0, tip c.args.left d.left, (after_join c.args.place c.args.right c.args.series d), (can_join c.args.place c.args.left c.args.right c.args.series d c.tidy-rest.new.lists c.tidy-rest.ensures.links t.0 t.1), t.2, refl)

pub lift-requires-clause-trees : goal.lift-requires-clause-trees
lift-requires-clause-trees g c =
    let d = c.requires.tree.0 in
    let t = c.tidy-rest.ensures.trees (not c.args.series) d.beside (after_tidy c.args.place c.args.left c.args.right c.args.series d) (can_tidy c.args.lists.now c.requires.links c.args.place c.args.left c.args.child c.args.right c.args.series d c.requires.tree.1
    c.detach.new.self c.detach.ensures.links c.detach.ensures.detached c.detach-2.new.self c.detach-2.ensures.links c.detach-2.ensures.detached c.detach-3.new.self c.detach-3.ensures.links c.detach-3.ensures.detached) (some_beside c.args.lists.now c.requires.links c.args.place c.args.left c.args.child c.args.right c.args.series d c.requires.tree.1) in
    let j = c.join-node.ensures.trees t.0 (tip c.args.left d.left) (after_join c.args.place c.args.right c.args.series d) (can_join c.args.place c.args.left c.args.right c.args.series d c.tidy-rest.new.lists c.tidy-rest.ensures.links t.0 t.1) t.2 refl in
    (one_lift c.args.right d j.0, (one_can c.args.place c.args.left c.args.child c.args.right c.args.series d c.requires.tree.1.1 t.0 j.0 t.3 j.3 c.join-node.new.lists c.join-node.ensures.links c.join-node.result j.1 j.2))

pub returns-clause-tree : goal.returns-clause-tree
returns-clause-tree g c =
    λ d is.
    let t = c.tidy-rest.ensures.trees (not c.args.series) d.beside (after_tidy c.args.place c.args.left c.args.right c.args.series d) (can_tidy c.args.lists.now c.requires.links c.args.place c.args.left c.args.child c.args.right c.args.series d is
    c.detach.new.self c.detach.ensures.links c.detach.ensures.detached c.detach-2.new.self c.detach-2.ensures.links c.detach-2.ensures.detached c.detach-3.new.self c.detach-3.ensures.links c.detach-3.ensures.detached) (some_beside c.args.lists.now c.requires.links c.args.place c.args.left c.args.child c.args.right c.args.series d is) in
    let j = c.join-node.ensures.trees t.0 (tip c.args.left d.left) (after_join c.args.place c.args.right c.args.series d) (can_join c.args.place c.args.left c.args.right c.args.series d c.tidy-rest.new.lists c.tidy-rest.ensures.links t.0 t.1) t.2 refl in
    one_lifted c.args.place c.args.left c.args.child c.args.right c.args.series d is.1 t.0 j.0 t.3 j.3 c.lift.new.lists (c.lift.ensures.trees (one_lift c.args.right d j.0) (one_can c.args.place c.args.left c.args.child c.args.right c.args.series d is.1 t.0 j.0 t.3 j.3 c.join-node.new.lists c.join-node.ensures.links c.join-node.result j.1 j.2))
