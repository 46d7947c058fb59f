use Rattle.md_bar_tree.proofs.Children.{two_of_leaf, two_of_node}
use Rattle.md_bar_tree.proofs.bar_search.least_two.Goals as goal

pub returns-in-Leaf : goal.returns-in-Leaf
returns-in-Leaf c canonical = two_of_leaf c.args.tree.now _ _ _ c.in-Leaf.is

pub returns-in-Node : goal.returns-in-Node
returns-in-Node c canonical inner = two_of_node c.args.tree.now _ _ _ _ _ c.in-Node.is c.least_at.ensures c.least_at-in-Node.ensures canonical
