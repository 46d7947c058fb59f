use Rattle.std.proofs.Common.{is_some, ◌∙◌, ap}
use Rattle.md_lists.specs.Links.{Links}
use Rattle.md_cotree_edit.proofs.Deletions.MovedChildren.{pass_parent, pass_ready, pass_marks, pass_done}
use Rattle.md_cotree_edit.proofs.deletion.pass.Goals as goal

pub detach-requires : goal.detach-requires
detach-requires g c = ap is_some (pass_parent c.args.lists.now c.requires.links c.args.from c.args.child c.args.to c.requires.trees.0 c.requires.trees.1)

pub attach-requires-clause-parent : goal.attach-requires-clause-parent
attach-requires-clause-parent g c =
    (pass_ready c.args.lists.now c.requires.links c.args.from c.args.child c.args.to c.requires.trees.0 c.requires.trees.1 c.detach.new.self c.detach.ensures.links c.detach.ensures.detached).parent

pub attach-requires-clause-child : goal.attach-requires-clause-child
attach-requires-clause-child g c =
    (pass_ready c.args.lists.now c.requires.links c.args.from c.args.child c.args.to c.requires.trees.0 c.requires.trees.1 c.detach.new.self c.detach.ensures.links c.detach.ensures.detached).child

pub attach-requires-clause-differ : goal.attach-requires-clause-differ
attach-requires-clause-differ g c =
    (pass_ready c.args.lists.now c.requires.links c.args.from c.args.child c.args.to c.requires.trees.0 c.requires.trees.1 c.detach.new.self c.detach.ensures.links c.detach.ensures.detached).differ

pub attach-requires-clause-loose : goal.attach-requires-clause-loose
attach-requires-clause-loose g c =
    (pass_ready c.args.lists.now c.requires.links c.args.from c.args.child c.args.to c.requires.trees.0 c.requires.trees.1 c.detach.new.self c.detach.ensures.links c.detach.ensures.detached).loose

pub returns-clause-trees : goal.returns-clause-trees
returns-clause-trees g c =
    λ d can. pass_done c.args.lists.now c.requires.links c.args.from c.args.child c.args.to d can c.detach.new.self c.detach.ensures.links c.detach.ensures.detached c.attach.new.self c.attach.ensures.attached

pub returns-clause-marked : goal.returns-clause-marked
returns-clause-marked g c =
    ap (λ (z : Links). z.marked) c.attach.ensures.attached
    ∙ pass_marks c.args.lists.now c.requires.links c.args.from c.args.child c.args.to c.requires.trees.0 c.requires.trees.1 c.detach.new.self c.detach.ensures.links c.detach.ensures.detached
