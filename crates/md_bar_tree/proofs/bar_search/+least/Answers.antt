use Rattle.md_bar_tree.proofs.Children.{least_leaf, least_node, least_item, no_item}
use Rattle.md_bar_tree.proofs.bar_search.+least.Goals as goal

pub least-returns-in-Leaf : goal.least-returns-in-Leaf
least-returns-in-Leaf t c canonical = least_leaf c.args.tree.now _ c.in-Leaf.is

pub least-returns-in-Node : goal.least-returns-in-Node
least-returns-in-Node t c = least_node c.args.tree.now _ _ _ _ c.in-Node.is c.least_at.ensures

pub least_at-returns-in-Some : goal.least_at-returns-in-Some
least_at-returns-in-Some t c each less = least_item c.args.children.now.list.items c.deref.result.now c.args.i c.in-Some.child.now _ c.deref.ensures.value less c.in-Some.ensures.lookup.1 each c.least.ensures

pub least_at-returns-in-None : goal.least_at-returns-in-None
least_at-returns-in-None t c each less = no_item c.args.children.now.list.items c.deref.result.now c.args.i c.deref.ensures.value c.in-None.ensures.lookup.3 less
