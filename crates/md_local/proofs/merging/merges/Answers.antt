use Rattle.md_local.proofs.Placing.{leaf_unmerged, node_merged}
use Rattle.md_local.proofs.merging.merges.Goals as goal

pub returns-in-Leaf : goal.returns-in-Leaf
returns-in-Leaf c = leaf_unmerged c.args.kind c.args.tree.now c.in-Leaf.field-0 c.in-Leaf.is

pub returns-in-Node : goal.returns-in-Node
returns-in-Node c = node_merged c.args.kind c.args.tree.now c.in-Node.own c.in-Node.field-1 c.in-Node.field-2 c.is_one_split.result c.in-Node.is c.is_one_split.ensures
