use Rattle.std.proofs.Common.{◌∙◌, ap, arith}
use Rattle.md_lists.specs.Links.{Links}
use Rattle.md_cotree_edit.proofs.Deletions.ReplacedNode.{replace_live, root_bare, off_live, off_bare, gone_kept, gone_unmarked}
use Rattle.md_cotree_edit.proofs.Deletions.ClosedNode.{close_view, close_can, closed_root, settle_view, close_beside, settle_can, closed_below}
use Rattle.md_cotree_edit.proofs.deletion.close_up.Goals as goal

pub parent-requires : goal.parent-requires
parent-requires g c =
    replace_live c.only_child-child.new.lists c.only_child-child.ensures.links c.args.root c.args.above c.only_child-child.result (close_view c.args.lists.now c.args.root c.args.above c.requires.tree.0 c.requires.tree.1 c.only_child-child.new.lists c.only_child-child.ensures.links c.only_child-child.result (c.only_child-child.ensures.tree c.requires.tree.0 c.requires.tree.1.is.kept)) (close_can c.args.lists.now c.args.root c.args.above c.requires.tree.0 c.requires.tree.1 c.only_child-child.new.lists c.only_child-child.ensures.links c.only_child-child.result (c.only_child-child.ensures.tree c.requires.tree.0 c.requires.tree.1.is.kept))

pub free-requires-clause-live : goal.free-requires-clause-live
free-requires-clause-live g c =
    replace_live c.only_child-child.new.lists c.only_child-child.ensures.links c.args.root c.args.above c.only_child-child.result (close_view c.args.lists.now c.args.root c.args.above c.requires.tree.0 c.requires.tree.1 c.only_child-child.new.lists c.only_child-child.ensures.links c.only_child-child.result (c.only_child-child.ensures.tree c.requires.tree.0 c.requires.tree.1.is.kept)) (close_can c.args.lists.now c.args.root c.args.above c.requires.tree.0 c.requires.tree.1 c.only_child-child.new.lists c.only_child-child.ensures.links c.only_child-child.result (c.only_child-child.ensures.tree c.requires.tree.0 c.requires.tree.1.is.kept))

pub free-requires-clause-bare : goal.free-requires-clause-bare
free-requires-clause-bare g c =
    root_bare c.only_child-child.new.lists c.only_child-child.ensures.links c.args.root c.args.above c.only_child-child.result (close_view c.args.lists.now c.args.root c.args.above c.requires.tree.0 c.requires.tree.1 c.only_child-child.new.lists c.only_child-child.ensures.links c.only_child-child.result (c.only_child-child.ensures.tree c.requires.tree.0 c.requires.tree.1.is.kept)) (close_can c.args.lists.now c.args.root c.args.above c.requires.tree.0 c.requires.tree.1 c.only_child-child.new.lists c.only_child-child.ensures.links c.only_child-child.result (c.only_child-child.ensures.tree c.requires.tree.0 c.requires.tree.1.is.kept)) c.in-None.ensures.parent (c.only_child-child.ensures.marked ∙ c.requires.unmarked)

pub free-requires-in-Some-clause-live : goal.free-requires-in-Some-clause-live
free-requires-in-Some-clause-live g c =
    off_live c.only_child-child.new.lists c.only_child-child.ensures.links c.args.root c.args.above c.only_child-child.result (close_view c.args.lists.now c.args.root c.args.above c.requires.tree.0 c.requires.tree.1 c.only_child-child.new.lists c.only_child-child.ensures.links c.only_child-child.result (c.only_child-child.ensures.tree c.requires.tree.0 c.requires.tree.1.is.kept)) (close_can c.args.lists.now c.args.root c.args.above c.requires.tree.0 c.requires.tree.1 c.only_child-child.new.lists c.only_child-child.ensures.links c.only_child-child.result (c.only_child-child.ensures.tree c.requires.tree.0 c.requires.tree.1.is.kept)) c.in-Some.top c.in-Some.ensures.parent c.detach.new.self c.detach.ensures.links c.detach.ensures.detached

pub free-requires-in-Some-clause-bare : goal.free-requires-in-Some-clause-bare
free-requires-in-Some-clause-bare g c =
    off_bare c.only_child-child.new.lists c.only_child-child.ensures.links c.args.root c.args.above c.only_child-child.result (close_view c.args.lists.now c.args.root c.args.above c.requires.tree.0 c.requires.tree.1 c.only_child-child.new.lists c.only_child-child.ensures.links c.only_child-child.result (c.only_child-child.ensures.tree c.requires.tree.0 c.requires.tree.1.is.kept)) (close_can c.args.lists.now c.args.root c.args.above c.requires.tree.0 c.requires.tree.1 c.only_child-child.new.lists c.only_child-child.ensures.links c.only_child-child.result (c.only_child-child.ensures.tree c.requires.tree.0 c.requires.tree.1.is.kept)) c.in-Some.top c.in-Some.ensures.parent c.detach.new.self c.detach.ensures.links c.detach.ensures.detached (c.only_child-child.ensures.marked ∙ c.requires.unmarked)

pub settle-requires-clause-unmarked : goal.settle-requires-clause-unmarked
settle-requires-clause-unmarked g c =
    gone_unmarked c.only_child-child.new.lists c.only_child-child.ensures.links c.args.root c.args.above c.only_child-child.result (close_view c.args.lists.now c.args.root c.args.above c.requires.tree.0 c.requires.tree.1 c.only_child-child.new.lists c.only_child-child.ensures.links c.only_child-child.result (c.only_child-child.ensures.tree c.requires.tree.0 c.requires.tree.1.is.kept)) (close_can c.args.lists.now c.args.root c.args.above c.requires.tree.0 c.requires.tree.1 c.only_child-child.new.lists c.only_child-child.ensures.links c.only_child-child.result (c.only_child-child.ensures.tree c.requires.tree.0 c.requires.tree.1.is.kept)) c.in-Some.top c.in-Some.ensures.parent c.detach.new.self c.detach.ensures.links c.detach.ensures.detached c.free-in-Some.new.self c.free-in-Some.ensures.links c.free-in-Some.ensures.freed (c.only_child-child.ensures.marked ∙ c.requires.unmarked)

pub settle-requires-clause-tree : goal.settle-requires-clause-tree
settle-requires-clause-tree g c =
    ((settle_view c.args.lists.now c.args.root c.args.above c.requires.tree.0 c.requires.tree.1 c.only_child-child.new.lists c.only_child-child.ensures.links c.only_child-child.result (c.only_child-child.ensures.tree c.requires.tree.0 c.requires.tree.1.is.kept) c.in-Some.top c.in-Some.ensures.parent), (settle_can c.args.lists.now c.args.root c.args.above c.requires.tree.0 c.requires.tree.1 c.only_child-child.new.lists c.only_child-child.ensures.links c.only_child-child.result (c.only_child-child.ensures.tree c.requires.tree.0 c.requires.tree.1.is.kept) c.in-Some.top c.in-Some.ensures.parent c.free-in-Some.new.self (gone_kept c.only_child-child.new.lists c.only_child-child.ensures.links c.args.root c.args.above c.only_child-child.result (close_view c.args.lists.now c.args.root c.args.above c.requires.tree.0 c.requires.tree.1 c.only_child-child.new.lists c.only_child-child.ensures.links c.only_child-child.result (c.only_child-child.ensures.tree c.requires.tree.0 c.requires.tree.1.is.kept)) (close_can c.args.lists.now c.args.root c.args.above c.requires.tree.0 c.requires.tree.1 c.only_child-child.new.lists c.only_child-child.ensures.links c.only_child-child.result (c.only_child-child.ensures.tree c.requires.tree.0 c.requires.tree.1.is.kept)) c.in-Some.top c.in-Some.ensures.parent c.detach.new.self c.detach.ensures.links c.detach.ensures.detached c.free-in-Some.new.self c.free-in-Some.ensures.links c.free-in-Some.ensures.freed)))

pub returns-in-None-clause-tree : goal.returns-in-None-clause-tree
returns-in-None-clause-tree g c =
    λ d can. closed_root c.args.lists.now c.args.root c.args.above d can c.only_child-child.new.lists c.only_child-child.ensures.links c.only_child-child.result (c.only_child-child.ensures.tree d can.is.kept) c.in-None.ensures.parent c.free.new.self c.free.ensures.freed

pub returns-in-None-clause-unmarked : goal.returns-in-None-clause-unmarked
returns-in-None-clause-unmarked g c =
    ap (λ (z : Links). z.marked) c.free.ensures.freed ∙ c.only_child-child.ensures.marked ∙ c.requires.unmarked

pub returns-in-Some-clause-tree : goal.returns-in-Some-clause-tree
returns-in-Some-clause-tree g c =
    λ d can. closed_below c.args.lists.now c.args.root c.args.above d can c.only_child-child.new.lists c.only_child-child.ensures.links c.only_child-child.result (c.only_child-child.ensures.tree d can.is.kept) c.in-Some.top c.in-Some.ensures.parent c.settle.new.lists c.settle.result (c.settle.ensures.tree (settle_view c.args.lists.now c.args.root c.args.above d can c.only_child-child.new.lists c.only_child-child.ensures.links c.only_child-child.result (c.only_child-child.ensures.tree d can.is.kept) c.in-Some.top c.in-Some.ensures.parent) (settle_can c.args.lists.now c.args.root c.args.above d can c.only_child-child.new.lists c.only_child-child.ensures.links c.only_child-child.result (c.only_child-child.ensures.tree d can.is.kept) c.in-Some.top c.in-Some.ensures.parent c.free-in-Some.new.self (gone_kept c.only_child-child.new.lists c.only_child-child.ensures.links c.args.root c.args.above c.only_child-child.result (close_view c.args.lists.now c.args.root c.args.above d can c.only_child-child.new.lists c.only_child-child.ensures.links c.only_child-child.result (c.only_child-child.ensures.tree d can.is.kept)) (close_can c.args.lists.now c.args.root c.args.above d can c.only_child-child.new.lists c.only_child-child.ensures.links c.only_child-child.result (c.only_child-child.ensures.tree d can.is.kept)) c.in-Some.top c.in-Some.ensures.parent c.detach.new.self c.detach.ensures.links c.detach.ensures.detached c.free-in-Some.new.self c.free-in-Some.ensures.links c.free-in-Some.ensures.freed)))

pub returns-in-Some-clause-steps : goal.returns-in-Some-clause-steps
returns-in-Some-clause-steps g c =
    λ d can.
    let s = c.settle.ensures.steps (settle_view c.args.lists.now c.args.root c.args.above d can c.only_child-child.new.lists c.only_child-child.ensures.links c.only_child-child.result (c.only_child-child.ensures.tree d can.is.kept) c.in-Some.top c.in-Some.ensures.parent) (settle_can c.args.lists.now c.args.root c.args.above d can c.only_child-child.new.lists c.only_child-child.ensures.links c.only_child-child.result (c.only_child-child.ensures.tree d can.is.kept) c.in-Some.top c.in-Some.ensures.parent c.free-in-Some.new.self (gone_kept c.only_child-child.new.lists c.only_child-child.ensures.links c.args.root c.args.above c.only_child-child.result (close_view c.args.lists.now c.args.root c.args.above d can c.only_child-child.new.lists c.only_child-child.ensures.links c.only_child-child.result (c.only_child-child.ensures.tree d can.is.kept)) (close_can c.args.lists.now c.args.root c.args.above d can c.only_child-child.new.lists c.only_child-child.ensures.links c.only_child-child.result (c.only_child-child.ensures.tree d can.is.kept)) c.in-Some.top c.in-Some.ensures.parent c.detach.new.self c.detach.ensures.links c.detach.ensures.detached c.free-in-Some.new.self c.free-in-Some.ensures.links c.free-in-Some.ensures.freed)) in
    let b = close_beside c.args.lists.now c.args.root c.args.above d can c.only_child-child.new.lists c.only_child-child.ensures.links c.only_child-child.result (c.only_child-child.ensures.tree d can.is.kept) c.in-Some.top c.in-Some.ensures.parent in
    let e = c.only_child-child.ensures.steps in
    let f = c.in-Some.ensures.step in
    let h = c.detach.ensures.step in
    let i = c.free-in-Some.ensures.step in
    omega arith
