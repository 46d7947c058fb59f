use Rattle.std.proofs.Common.{◌<◌, is_some, sym, ◌∙◌, ap, subst}
use Rattle.md_cotree_edit.proofs.EdgeTurns.LiftedLeaves.{both_first, both_second, both_spare, both_marks, both_lift, both_can}
use Rattle.md_cotree_edit.proofs.ends.turn_both.Goals as goal

pub detach-requires : goal.detach-requires
detach-requires g c =
    ap is_some (both_first c.args.lists.now c.requires.links c.args.place c.args.left c.args.right c.args.series c.requires.tree.0 c.requires.tree.1)

pub detach-requires-2 : goal.detach-requires-2
detach-requires-2 g c =
    ap is_some (both_second c.args.lists.now c.requires.links c.args.place c.args.left c.args.right c.args.series c.requires.tree.0 c.requires.tree.1 c.detach.new.self c.detach.ensures.links c.detach.ensures.detached)

pub lift-requires-clause-room : goal.lift-requires-clause-room
lift-requires-clause-room g c =
    subst (λ n. 0 < n) (sym (both_spare c.args.lists.now c.requires.links c.args.place c.args.left c.args.right c.args.series c.requires.tree.0 c.requires.tree.1 c.detach.new.self c.detach.ensures.links c.detach.ensures.detached c.detach-2.new.self c.detach-2.ensures.detached)) c.requires.room

pub lift-requires-clause-unmarked : goal.lift-requires-clause-unmarked
lift-requires-clause-unmarked g c =
    both_marks c.args.lists.now c.requires.links c.args.place c.args.left c.args.right c.args.series c.requires.tree.0 c.requires.tree.1 c.detach.new.self c.detach.ensures.links c.detach.ensures.detached c.detach-2.new.self c.detach-2.ensures.detached ∙ c.requires.unmarked

pub lift-requires-clause-trees : goal.lift-requires-clause-trees
lift-requires-clause-trees g c =
    (both_lift c.args.lists.now c.requires.links c.args.place c.args.left c.args.right c.args.series c.requires.tree.0 c.requires.tree.1 c.detach.new.self c.detach.ensures.links c.detach.ensures.detached, both_can c.args.lists.now c.requires.links c.args.place c.args.left c.args.right c.args.series c.requires.tree.0 c.requires.tree.1 c.detach.new.self c.detach.ensures.links c.detach.ensures.detached c.detach-2.new.self c.detach-2.ensures.links c.detach-2.ensures.detached)

pub returns-clause-tree : goal.returns-clause-tree
returns-clause-tree g c =
    λ d is. c.lift.ensures.trees (both_lift c.args.lists.now c.requires.links c.args.place c.args.left c.args.right c.args.series d is c.detach.new.self c.detach.ensures.links c.detach.ensures.detached) (both_can c.args.lists.now c.requires.links c.args.place c.args.left c.args.right c.args.series d is c.detach.new.self c.detach.ensures.links c.detach.ensures.detached c.detach-2.new.self c.detach-2.ensures.links c.detach-2.ensures.detached)
