use Rattle.std.proofs.Common.{◌∙◌, ap, arith}
use Rattle.md_lists.specs.Links.{Links}
use Rattle.md_cotree_edit.proofs.Deletions.MergedNodes.{other_leaf, settle_live, settle_ready, settled_leaf, merge_view, merge_can, merge_below, settled_node}
use Rattle.md_cotree_edit.proofs.deletion.settle.Goals as goal

pub kind-requires : goal.kind-requires
kind-requires g c =
    settle_live c.args.lists.now c.requires.links c.args.root c.args.top c.args.child c.requires.tree.0 c.requires.tree.1

pub attach-requires-clause-parent : goal.attach-requires-clause-parent
attach-requires-clause-parent g c =
    (settle_ready c.args.lists.now c.requires.links c.args.root c.args.top c.args.child c.requires.tree.0 c.requires.tree.1).parent

pub attach-requires-clause-child : goal.attach-requires-clause-child
attach-requires-clause-child g c =
    (settle_ready c.args.lists.now c.requires.links c.args.root c.args.top c.args.child c.requires.tree.0 c.requires.tree.1).child

pub attach-requires-clause-differ : goal.attach-requires-clause-differ
attach-requires-clause-differ g c =
    (settle_ready c.args.lists.now c.requires.links c.args.root c.args.top c.args.child c.requires.tree.0 c.requires.tree.1).differ

pub attach-requires-clause-loose : goal.attach-requires-clause-loose
attach-requires-clause-loose g c =
    (settle_ready c.args.lists.now c.requires.links c.args.root c.args.top c.args.child c.requires.tree.0 c.requires.tree.1).loose

pub returns-in-Leaf-clause-tree : goal.returns-in-Leaf-clause-tree
returns-in-Leaf-clause-tree g c =
    λ d can. settled_leaf c.args.lists.now c.requires.links c.args.root c.args.top c.args.child d can c.in-Leaf.field-0 c.in-Leaf.ensures.kind c.attach.new.self c.attach.ensures.attached

pub returns-in-Leaf-clause-unmarked : goal.returns-in-Leaf-clause-unmarked
returns-in-Leaf-clause-unmarked g c =
    ap (λ (z : Links). z.marked) c.attach.ensures.attached ∙ c.requires.unmarked

pub merge-requires-clause-tree : goal.merge-requires-clause-tree
merge-requires-clause-tree g c =
    (merge_view c.args.lists.now c.requires.links c.args.root c.args.top c.args.child c.requires.tree.0 c.requires.tree.1 (other_leaf _ c.kind.result c.kind.ensures.kind c.in_default.not-Leaf), merge_can c.args.lists.now c.requires.links c.args.root c.args.top c.args.child c.requires.tree.0 c.requires.tree.1 (other_leaf _ c.kind.result c.kind.ensures.kind c.in_default.not-Leaf))

pub returns-in_default-clause-tree : goal.returns-in_default-clause-tree
returns-in_default-clause-tree g c =
    λ d can. settled_node c.args.lists.now c.requires.links c.args.root c.args.top c.args.child d can (other_leaf _ c.kind.result c.kind.ensures.kind c.in_default.not-Leaf) c.merge.new.lists c.merge.result (c.merge.ensures.tree (merge_view c.args.lists.now c.requires.links c.args.root c.args.top c.args.child d can (other_leaf _ c.kind.result c.kind.ensures.kind c.in_default.not-Leaf)) (merge_can c.args.lists.now c.requires.links c.args.root c.args.top c.args.child d can (other_leaf _ c.kind.result c.kind.ensures.kind c.in_default.not-Leaf)))

pub returns-in_default-clause-steps : goal.returns-in_default-clause-steps
returns-in_default-clause-steps g c =
    λ d can.
    let a = c.merge.ensures.steps (merge_view c.args.lists.now c.requires.links c.args.root c.args.top c.args.child d can (other_leaf _ c.kind.result c.kind.ensures.kind c.in_default.not-Leaf)) (merge_can c.args.lists.now c.requires.links c.args.root c.args.top c.args.child d can (other_leaf _ c.kind.result c.kind.ensures.kind c.in_default.not-Leaf)) in
    let b = merge_below c.args.lists.now c.requires.links c.args.root c.args.top c.args.child d can (other_leaf _ c.kind.result c.kind.ensures.kind c.in_default.not-Leaf) in
    let e = c.kind.ensures.step in
    omega arith
