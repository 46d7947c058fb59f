use Rattle.std.proofs.Common.{◌-◌, ◌∙◌, ap}
use Rattle.md_tree.proofs.Stacking.{leaf_put, node_put}
use Rattle.md_tree.proofs.parts.put_part.Goals as goal

pub returns-in_ok-push-in-Leaf : goal.returns-in_ok-push-in-Leaf
returns-in_ok-push-in-Leaf g c = leaf_put c.in-Leaf.name _ _ c.args.part c.in-Leaf.is c.in_ok-push-in-Leaf.ensures.items

pub returns-in_ok-push-in-Node : goal.returns-in_ok-push-in-Node
returns-in_ok-push-in-Node g c =
    node_put c.in-Node.kind c.in-Node.number (c.len.result - c.in-Node.number) c.in-Node.pairs c.in_ok-list-in-Node.list c.args.stack.now.items
    c.split_off.new.self.items c.push-in-Node.new.self.items c.args.part c.in-Node.is
    (ap (λ l. l - c.in-Node.number) (c.len.ensures ∙ c.args.stack.now.ok.0)) c.in_ok-list-in-Node.ensures.items c.in_ok-list-in-Node.ensures.tail c.in_ok-push-in-Node.ensures.items
