use Rattle.std.proofs.Common.{map, sym, ◌∙◌, ap}
use Rattle.md_tree.specs.Plain.{plain}
use Rattle.md_local.proofs.Placing.{leaf_below, node_below}
use Rattle.md_local.proofs.walking.children_of.Goals as goal

pub returns-in-Leaf : goal.returns-in-Leaf
returns-in-Leaf c = sym (leaf_below c.args.tree.now c.in-Leaf.field-0 c.in-Leaf.is)

pub returns-in-Node : goal.returns-in-Node
returns-in-Node c =
    ap (map plain) c.deref.ensures.value ∙ sym (node_below c.args.tree.now c.in-Node.field-0 c.in-Node.children c.in-Node.field-2 c.in-Node.is)
