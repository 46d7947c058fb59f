use Rattle.std.proofs.Common.{arith}
use Rattle.md_cotree_edit.proofs.Deletions.MovedChildren.{no_some}
use Rattle.md_cotree_edit.proofs.Deletions.PrunedLeaf.{prune_live, lone_bare, lone_done, off_leaf_live, off_leaf_bare, left_unmarked, left_live, left_many, left_view, left_can, left_closed, left_few}
use Rattle.md_cotree_edit.proofs.deletion.prune.Goals as goal

pub parent-requires : goal.parent-requires
parent-requires g c =
    prune_live c.args.lists.now c.requires.links c.args.root c.args.leaf c.requires.tree.0 c.requires.tree.1

pub free-requires-clause-live : goal.free-requires-clause-live
free-requires-clause-live g c =
    prune_live c.args.lists.now c.requires.links c.args.root c.args.leaf c.requires.tree.0 c.requires.tree.1

pub free-requires-clause-bare : goal.free-requires-clause-bare
free-requires-clause-bare g c =
    lone_bare c.args.lists.now c.requires.links c.args.root c.args.leaf c.requires.tree.0 c.requires.tree.1 (no_some c.parent.result _ c.parent.ensures.parent c.in_default.not-Some) c.requires.unmarked

pub free-requires-2-clause-live : goal.free-requires-2-clause-live
free-requires-2-clause-live g c =
    off_leaf_live c.args.lists.now c.requires.links c.args.root c.args.leaf c.requires.tree.0 c.requires.tree.1 c.in-Some.above c.in-Some.ensures.parent c.detach.new.self c.detach.ensures.links c.detach.ensures.detached

pub free-requires-2-clause-bare : goal.free-requires-2-clause-bare
free-requires-2-clause-bare g c =
    off_leaf_bare c.args.lists.now c.requires.links c.args.root c.args.leaf c.requires.tree.0 c.requires.tree.1 c.in-Some.above c.in-Some.ensures.parent c.detach.new.self c.detach.ensures.links c.detach.ensures.detached c.requires.unmarked

pub child_count-requires : goal.child_count-requires
child_count-requires g c =
    left_live c.args.lists.now c.requires.links c.args.root c.args.leaf c.requires.tree.0 c.requires.tree.1 c.in-Some.above c.in-Some.ensures.parent c.detach.new.self c.detach.ensures.links c.detach.ensures.detached c.free-2.new.self c.free-2.ensures.links c.free-2.ensures.freed

pub returns-in_default-clause-tree : goal.returns-in_default-clause-tree
returns-in_default-clause-tree g c =
    λ d can. lone_done c.args.lists.now c.requires.links c.args.root c.args.leaf d can (no_some c.parent.result _ c.parent.ensures.parent c.in_default.not-Some) c.free.new.self c.free.ensures.freed

pub returns-then-child_count-ne1-clause-tree : goal.returns-then-child_count-ne1-clause-tree
returns-then-child_count-ne1-clause-tree g c =
    λ d can. left_many c.args.lists.now c.requires.links c.args.root c.args.leaf d can c.in-Some.above c.in-Some.ensures.parent c.detach.new.self c.detach.ensures.links c.detach.ensures.detached c.free-2.new.self c.free-2.ensures.links c.free-2.ensures.freed c.child_count.result c.child_count.ensures.count c.if-child_count-ne1.true

pub close_up-requires-clause-unmarked : goal.close_up-requires-clause-unmarked
close_up-requires-clause-unmarked g c =
    left_unmarked c.args.lists.now c.requires.links c.args.root c.args.leaf c.requires.tree.0 c.requires.tree.1 c.in-Some.above c.in-Some.ensures.parent c.detach.new.self c.detach.ensures.links c.detach.ensures.detached c.free-2.new.self c.free-2.ensures.links c.free-2.ensures.freed c.requires.unmarked

pub close_up-requires-clause-tree : goal.close_up-requires-clause-tree
close_up-requires-clause-tree g c =
    ((left_view c.args.lists.now c.requires.links c.args.root c.args.leaf c.requires.tree.0 c.requires.tree.1 c.in-Some.above c.in-Some.ensures.parent c.detach.new.self c.detach.ensures.links c.detach.ensures.detached c.free-2.new.self c.free-2.ensures.links c.free-2.ensures.freed c.child_count.result c.child_count.ensures.count c.if-child_count-ne1.false), (left_can c.args.lists.now c.requires.links c.args.root c.args.leaf c.requires.tree.0 c.requires.tree.1 c.in-Some.above c.in-Some.ensures.parent c.detach.new.self c.detach.ensures.links c.detach.ensures.detached c.free-2.new.self c.free-2.ensures.links c.free-2.ensures.freed c.child_count.result c.child_count.ensures.count c.if-child_count-ne1.false))

pub returns-clause-tree : goal.returns-clause-tree
returns-clause-tree g c =
    λ d can. left_closed c.args.lists.now c.requires.links c.args.root c.args.leaf d can c.in-Some.above c.in-Some.ensures.parent c.detach.new.self c.detach.ensures.links c.detach.ensures.detached c.free-2.new.self c.free-2.ensures.links c.free-2.ensures.freed c.child_count.result c.child_count.ensures.count c.if-child_count-ne1.false c.close_up.new.lists c.close_up.result (c.close_up.ensures.tree (left_view c.args.lists.now c.requires.links c.args.root c.args.leaf d can c.in-Some.above c.in-Some.ensures.parent c.detach.new.self c.detach.ensures.links c.detach.ensures.detached c.free-2.new.self c.free-2.ensures.links c.free-2.ensures.freed c.child_count.result c.child_count.ensures.count c.if-child_count-ne1.false) (left_can c.args.lists.now c.requires.links c.args.root c.args.leaf d can c.in-Some.above c.in-Some.ensures.parent c.detach.new.self c.detach.ensures.links c.detach.ensures.detached c.free-2.new.self c.free-2.ensures.links c.free-2.ensures.freed c.child_count.result c.child_count.ensures.count c.if-child_count-ne1.false))

pub returns-clause-steps : goal.returns-clause-steps
returns-clause-steps g c =
    λ d n can few.
    let e = c.close_up.ensures.steps (left_view c.args.lists.now c.requires.links c.args.root c.args.leaf d can c.in-Some.above c.in-Some.ensures.parent c.detach.new.self c.detach.ensures.links c.detach.ensures.detached c.free-2.new.self c.free-2.ensures.links c.free-2.ensures.freed c.child_count.result c.child_count.ensures.count c.if-child_count-ne1.false) (left_can c.args.lists.now c.requires.links c.args.root c.args.leaf d can c.in-Some.above c.in-Some.ensures.parent c.detach.new.self c.detach.ensures.links c.detach.ensures.detached c.free-2.new.self c.free-2.ensures.links c.free-2.ensures.freed c.child_count.result c.child_count.ensures.count c.if-child_count-ne1.false) in
    let f = left_few c.args.lists.now c.requires.links c.args.root c.args.leaf d can c.in-Some.above c.in-Some.ensures.parent c.detach.new.self c.detach.ensures.links c.detach.ensures.detached c.free-2.new.self c.free-2.ensures.links c.free-2.ensures.freed c.child_count.result c.child_count.ensures.count c.if-child_count-ne1.false n few in
    let a = c.parent.ensures.step in
    let b = c.detach.ensures.step in
    let h = c.free-2.ensures.step in
    let i = c.child_count.ensures.step in
    omega arith
