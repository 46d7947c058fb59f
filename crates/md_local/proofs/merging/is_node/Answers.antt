use Rattle.std.proofs.Common.{sym, ap}
use Rattle.md_tree.proofs.Plain.{plain_is_leaf, plain_is_node}
use Rattle.md_local.specs.Substitution.{is_inner}
use Rattle.md_local.proofs.merging.is_node.Goals as goal

pub returns-in-Leaf : goal.returns-in-Leaf
returns-in-Leaf c = sym (ap is_inner (plain_is_leaf c.args.tree.now c.in-Leaf.field-0 c.in-Leaf.is))

pub returns-in-Node : goal.returns-in-Node
returns-in-Node c = sym (ap is_inner (plain_is_node c.args.tree.now c.in-Node.field-0 c.in-Node.field-1 c.in-Node.field-2 c.in-Node.is))
