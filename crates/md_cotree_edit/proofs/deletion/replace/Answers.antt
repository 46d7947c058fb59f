use Rattle.md_lists.specs.Links.{Links}
use Rattle.std.proofs.Common.{◌∙◌, ap}
use Rattle.md_cotree_edit.proofs.Deletions.ReplacedNode.{replace_live, root_bare, root_done, off_live, off_bare, gone_unmarked, replace_ready, replace_done}
use Rattle.md_cotree_edit.proofs.deletion.replace.Goals as goal

pub parent-requires : goal.parent-requires
parent-requires g c =
    replace_live c.args.lists.now c.requires.links c.args.root c.args.old c.args.child c.requires.tree.0 c.requires.tree.1

pub free-requires-clause-live : goal.free-requires-clause-live
free-requires-clause-live g c =
    replace_live c.args.lists.now c.requires.links c.args.root c.args.old c.args.child c.requires.tree.0 c.requires.tree.1

pub free-requires-clause-bare : goal.free-requires-clause-bare
free-requires-clause-bare g c =
    root_bare c.args.lists.now c.requires.links c.args.root c.args.old c.args.child c.requires.tree.0 c.requires.tree.1 c.in-None.ensures.parent c.requires.unmarked

pub free-requires-in-Some-clause-live : goal.free-requires-in-Some-clause-live
free-requires-in-Some-clause-live g c =
    off_live c.args.lists.now c.requires.links c.args.root c.args.old c.args.child c.requires.tree.0 c.requires.tree.1 c.in-Some.above c.in-Some.ensures.parent c.detach.new.self c.detach.ensures.links c.detach.ensures.detached

pub free-requires-in-Some-clause-bare : goal.free-requires-in-Some-clause-bare
free-requires-in-Some-clause-bare g c =
    off_bare c.args.lists.now c.requires.links c.args.root c.args.old c.args.child c.requires.tree.0 c.requires.tree.1 c.in-Some.above c.in-Some.ensures.parent c.detach.new.self c.detach.ensures.links c.detach.ensures.detached c.requires.unmarked

pub attach-requires-clause-parent : goal.attach-requires-clause-parent
attach-requires-clause-parent g c =
    (replace_ready c.args.lists.now c.requires.links c.args.root c.args.old c.args.child c.requires.tree.0 c.requires.tree.1 c.in-Some.above c.in-Some.ensures.parent c.detach.new.self c.detach.ensures.links c.detach.ensures.detached c.free-in-Some.new.self c.free-in-Some.ensures.links c.free-in-Some.ensures.freed).parent

pub attach-requires-clause-child : goal.attach-requires-clause-child
attach-requires-clause-child g c =
    (replace_ready c.args.lists.now c.requires.links c.args.root c.args.old c.args.child c.requires.tree.0 c.requires.tree.1 c.in-Some.above c.in-Some.ensures.parent c.detach.new.self c.detach.ensures.links c.detach.ensures.detached c.free-in-Some.new.self c.free-in-Some.ensures.links c.free-in-Some.ensures.freed).child

pub attach-requires-clause-differ : goal.attach-requires-clause-differ
attach-requires-clause-differ g c =
    (replace_ready c.args.lists.now c.requires.links c.args.root c.args.old c.args.child c.requires.tree.0 c.requires.tree.1 c.in-Some.above c.in-Some.ensures.parent c.detach.new.self c.detach.ensures.links c.detach.ensures.detached c.free-in-Some.new.self c.free-in-Some.ensures.links c.free-in-Some.ensures.freed).differ

pub attach-requires-clause-loose : goal.attach-requires-clause-loose
attach-requires-clause-loose g c =
    (replace_ready c.args.lists.now c.requires.links c.args.root c.args.old c.args.child c.requires.tree.0 c.requires.tree.1 c.in-Some.above c.in-Some.ensures.parent c.detach.new.self c.detach.ensures.links c.detach.ensures.detached c.free-in-Some.new.self c.free-in-Some.ensures.links c.free-in-Some.ensures.freed).loose

pub returns-in-None-clause-tree : goal.returns-in-None-clause-tree
returns-in-None-clause-tree g c =
    λ d can. root_done c.args.lists.now c.requires.links c.args.root c.args.old c.args.child d can c.in-None.ensures.parent c.free.new.self c.free.ensures.freed

pub returns-in-Some-clause-tree : goal.returns-in-Some-clause-tree
returns-in-Some-clause-tree g c =
    λ d can. replace_done c.args.lists.now c.requires.links c.args.root c.args.old c.args.child d can c.in-Some.above c.in-Some.ensures.parent c.detach.new.self c.detach.ensures.links c.detach.ensures.detached c.free-in-Some.new.self c.free-in-Some.ensures.links c.free-in-Some.ensures.freed c.attach.new.self c.attach.ensures.attached

pub returns-in-Some-clause-unmarked : goal.returns-in-Some-clause-unmarked
returns-in-Some-clause-unmarked g c =
    ap (λ (z : Links). z.marked) c.attach.ensures.attached ∙ gone_unmarked c.args.lists.now c.requires.links c.args.root c.args.old c.args.child c.requires.tree.0 c.requires.tree.1 c.in-Some.above c.in-Some.ensures.parent c.detach.new.self c.detach.ensures.links c.detach.ensures.detached c.free-in-Some.new.self c.free-in-Some.ensures.links c.free-in-Some.ensures.freed c.requires.unmarked
