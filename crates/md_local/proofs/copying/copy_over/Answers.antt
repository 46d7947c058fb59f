use Rattle.std.proofs.Common.{refl}
use Rattle.md_local.proofs.Ways.{leaf_copy, node_copy}
use Rattle.md_local.proofs.copying.copy_over.Goals as goal

pub returns-in-Leaf : goal.returns-in-Leaf
returns-in-Leaf c = leaf_copy c.args.tree.now c.in-Leaf.name c.in-Leaf.is _ refl

pub returns-in_ok-edges-in-Node : goal.returns-in_ok-edges-in-Node
returns-in_ok-edges-in-Node c = node_copy c.args.tree.now c.in-Node.kind c.in-Node.field-1 c.in-Node.edges _ c.args.list c.in-Node.is c.requires c.in_ok-edges-in-Node.ensures
