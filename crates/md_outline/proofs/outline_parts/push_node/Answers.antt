use Rattle.std.proofs.Common.{arith}
use Rattle.md_tree.proofs.Stacking.{if_ok}
use Rattle.md_outline.proofs.TreeOutlines.{few_below, node_waits, leaf_waits}
use Rattle.md_outline.proofs.outline_parts.push_node.Goals as goal

pub overflow_cast-len : goal.overflow_cast-len
overflow_cast-len c =
    let few = few_below c.args.node.now c.in-Node.kind c.in-Node.children c.in-Node.field-2 c.in-Node.is c.requires in
    let len = c.len.ensures.value in
    omega arith

pub returns-in_ok-push-in-Leaf : goal.returns-in_ok-push-in-Leaf
returns-in_ok-push-in-Leaf c = (_, c.in_ok-push-in-Leaf.ensures.items, leaf_waits c.args.node.now c.in-Leaf.name c.args.waiting.now.items c.in-Leaf.is)

pub returns-in_ok-push-in-Node : goal.returns-in_ok-push-in-Node
returns-in_ok-push-in-Node c =
    if_ok c.push_children_backward.result
    (λ x below. (_, c.in_ok-push-in-Node.ensures.items, node_waits c.args.node.now c.in-Node.kind c.in-Node.children c.in-Node.field-2 c.in-Node.is c.len.result c.len.ensures.value c.args.waiting.now.items c.push_children_backward.new.waiting.items below))
    c.push_children_backward.ensures
