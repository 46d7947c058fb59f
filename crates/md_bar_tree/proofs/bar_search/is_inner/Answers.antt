use Rattle.std.proofs.Common.{true≢false, refl, sym}
use Rattle.md_bar_tree.proofs.Children.{leaf_not_inner, node_inner}
use Rattle.md_bar_tree.proofs.bar_search.is_inner.Goals as goal

pub returns-in-Leaf : goal.returns-in-Leaf
returns-in-Leaf c = ((λ h. absurd (true≢false (sym h))), λ i. absurd (leaf_not_inner c.args.tree.now _ c.in-Leaf.is i))

pub returns-in-Node : goal.returns-in-Node
returns-in-Node c = ((λ h. node_inner c.args.tree.now _ _ _ c.in-Node.is), λ i. refl)
