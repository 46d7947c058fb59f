use Rattle.std.proofs.Common.{◌∙◌, arith}
use Rattle.md_cotree_edit.proofs.Deletions.MergedNodes.{low_live, high_live, low_count, high_count, up_view, up_can, up_live, up_bare, up_merged, down_view, down_can, down_place, down_replace, down_merged}
use Rattle.md_cotree_edit.proofs.deletion.merge.Goals as goal

pub child_count-requires : goal.child_count-requires
child_count-requires g c =
    low_live c.args.lists.now c.requires.links c.args.root c.args.top c.args.child c.requires.tree.0 c.requires.tree.1

pub child_count-requires-2 : goal.child_count-requires-2
child_count-requires-2 g c =
    high_live c.args.lists.now c.requires.links c.args.root c.args.top c.args.child c.requires.tree.0 c.requires.tree.1

pub move_all-requires-clause-trees : goal.move_all-requires-clause-trees
move_all-requires-clause-trees g c =
    ((up_view c.args.lists.now c.requires.links c.args.root c.args.top c.args.child c.requires.tree.0 c.requires.tree.1), (up_can c.args.lists.now c.requires.links c.args.root c.args.top c.args.child c.requires.tree.0 c.requires.tree.1))

pub free-requires-clause-live : goal.free-requires-clause-live
free-requires-clause-live g c =
    up_live c.args.lists.now c.requires.links c.args.root c.args.top c.args.child c.requires.tree.0 c.requires.tree.1 c.move_all.new.lists c.move_all.ensures.links (c.move_all.ensures.trees (up_view c.args.lists.now c.requires.links c.args.root c.args.top c.args.child c.requires.tree.0 c.requires.tree.1) (up_can c.args.lists.now c.requires.links c.args.root c.args.top c.args.child c.requires.tree.0 c.requires.tree.1))

pub free-requires-clause-bare : goal.free-requires-clause-bare
free-requires-clause-bare g c =
    up_bare c.args.lists.now c.requires.links c.args.root c.args.top c.args.child c.requires.tree.0 c.requires.tree.1 c.move_all.new.lists c.move_all.ensures.links (c.move_all.ensures.trees (up_view c.args.lists.now c.requires.links c.args.root c.args.top c.args.child c.requires.tree.0 c.requires.tree.1) (up_can c.args.lists.now c.requires.links c.args.root c.args.top c.args.child c.requires.tree.0 c.requires.tree.1)) (c.move_all.ensures.marked ∙ c.requires.unmarked)

pub returns-then-child_count-clause-tree : goal.returns-then-child_count-clause-tree
returns-then-child_count-clause-tree g c =
    λ d can. up_merged c.args.lists.now c.requires.links c.args.root c.args.top c.args.child d can c.move_all.new.lists c.move_all.ensures.links (c.move_all.ensures.trees (up_view c.args.lists.now c.requires.links c.args.root c.args.top c.args.child d can) (up_can c.args.lists.now c.requires.links c.args.root c.args.top c.args.child d can)) c.free.new.self c.free.ensures.freed

pub returns-then-child_count-clause-steps : goal.returns-then-child_count-clause-steps
returns-then-child_count-clause-steps g c =
    λ d can.
    let a = low_count c.args.lists.now c.requires.links c.args.root c.args.top c.args.child d can in
    let b = high_count c.args.lists.now c.requires.links c.args.root c.args.top c.args.child d can in
    omega arith

pub move_all-requires-2-clause-trees : goal.move_all-requires-2-clause-trees
move_all-requires-2-clause-trees g c =
    ((down_view c.args.lists.now c.requires.links c.args.root c.args.top c.args.child c.requires.tree.0 c.requires.tree.1), (down_can c.args.lists.now c.requires.links c.args.root c.args.top c.args.child c.requires.tree.0 c.requires.tree.1))

pub replace-requires-clause-tree : goal.replace-requires-clause-tree
replace-requires-clause-tree g c =
    (down_place c.args.lists.now c.requires.links c.args.root c.args.top c.args.child c.requires.tree.0 c.requires.tree.1 c.move_all-2.new.lists (c.move_all-2.ensures.trees (down_view c.args.lists.now c.requires.links c.args.root c.args.top c.args.child c.requires.tree.0 c.requires.tree.1) (down_can c.args.lists.now c.requires.links c.args.root c.args.top c.args.child c.requires.tree.0 c.requires.tree.1)), down_replace c.args.lists.now c.requires.links c.args.root c.args.top c.args.child c.requires.tree.0 c.requires.tree.1 c.move_all-2.new.lists (c.move_all-2.ensures.trees (down_view c.args.lists.now c.requires.links c.args.root c.args.top c.args.child c.requires.tree.0 c.requires.tree.1) (down_can c.args.lists.now c.requires.links c.args.root c.args.top c.args.child c.requires.tree.0 c.requires.tree.1)))

pub returns-clause-tree : goal.returns-clause-tree
returns-clause-tree g c =
    λ d can.
    down_merged c.args.lists.now c.requires.links c.args.root c.args.top c.args.child d can c.move_all-2.new.lists (c.move_all-2.ensures.trees (down_view c.args.lists.now c.requires.links c.args.root c.args.top c.args.child d can) (down_can c.args.lists.now c.requires.links c.args.root c.args.top c.args.child d can)) c.replace.new.lists c.replace.result
    (c.replace.ensures.tree (down_place c.args.lists.now c.requires.links c.args.root c.args.top c.args.child d can c.move_all-2.new.lists (c.move_all-2.ensures.trees (down_view c.args.lists.now c.requires.links c.args.root c.args.top c.args.child d can) (down_can c.args.lists.now c.requires.links c.args.root c.args.top c.args.child d can))) (down_replace c.args.lists.now c.requires.links c.args.root c.args.top c.args.child d can c.move_all-2.new.lists (c.move_all-2.ensures.trees (down_view c.args.lists.now c.requires.links c.args.root c.args.top c.args.child d can) (down_can c.args.lists.now c.requires.links c.args.root c.args.top c.args.child d can))))

pub returns-clause-steps : goal.returns-clause-steps
returns-clause-steps g c =
    λ d can.
    let a = low_count c.args.lists.now c.requires.links c.args.root c.args.top c.args.child d can in
    let b = high_count c.args.lists.now c.requires.links c.args.root c.args.top c.args.child d can in
    omega arith
