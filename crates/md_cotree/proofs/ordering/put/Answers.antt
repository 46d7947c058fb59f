use Rattle.md_cotree.proofs.Sorting.{leaf_is_put}
use Rattle.md_cotree.proofs.ordering.put.Goals as goal

pub returns-in_ok-push-in-Leaf : goal.returns-in_ok-push-in-Leaf
returns-in_ok-push-in-Leaf g c = leaf_is_put c.args.lists.now c.args.place c.in-Leaf.name _ _ c.in-Leaf.ensures.kind c.in_ok-push-in-Leaf.ensures.items
