use Rattle.std.proofs.Common.{is_some, ap}
use Rattle.md_cotree_edit.proofs.Deletions.ClosedNode.{only_live, only_some, only_is, only_parent, only_kept, only_marks}
use Rattle.md_cotree_edit.proofs.deletion.only_child.Goals as goal

pub first_child-requires : goal.first_child-requires
first_child-requires g c =
    only_live c.args.lists.now c.requires.links c.args.above c.requires.tree.0 c.requires.tree.1

pub detach-requires : goal.detach-requires
detach-requires g c =
    ap is_some (only_parent c.args.lists.now c.requires.links c.args.above c.requires.tree.0 c.requires.tree.1 c.in-Some.child c.in-Some.ensures.first)

pub returns-clause-tree : goal.returns-clause-tree
returns-clause-tree g c =
    λ d kept. (only_kept c.args.lists.now c.requires.links c.args.above d kept c.in-Some.child c.in-Some.ensures.first c.detach.new.self c.detach.ensures.detached, only_is c.args.lists.now c.requires.links c.args.above d kept c.in-Some.child c.in-Some.ensures.first)

pub returns-clause-marked : goal.returns-clause-marked
returns-clause-marked g c =
    only_marks c.args.lists.now c.requires.links c.args.above c.requires.tree.0 c.requires.tree.1 c.in-Some.child c.in-Some.ensures.first c.detach.new.self c.detach.ensures.detached

pub unreachable-requires : goal.unreachable-requires
unreachable-requires g c =
    only_some c.args.lists.now c.requires.links c.args.above c.requires.tree.0 c.requires.tree.1 c.in-None.ensures.first
