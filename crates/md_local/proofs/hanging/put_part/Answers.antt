use Rattle.std.proofs.Common.{◌-◌, ◌∙◌, ap}
use Rattle.md_local.proofs.PutTrees.{node_turn}
use Rattle.md_local.proofs.hanging.put_part.Goals as goal

pub returns-in_ok-push-in-Node-clause-put : goal.returns-in_ok-push-in-Node-clause-put
returns-in_ok-push-in-Node-clause-put c =
    node_turn _ c.args.part c.in-Node.kind c.in-Node.number (c.len.result - c.in-Node.number) c.in-Node.edges c.in_ok-tree-in-Node.tree
    c.args.stack.now.items c.split_off.new.self.items c.push-in-Node.new.self.items c.in_ok-children-in-Node.children.items c.in-Node.is
    (ap (λ n. n - c.in-Node.number) (c.len.ensures ∙ c.args.stack.now.ok.0)) c.in_ok-children-in-Node.ensures.tail c.in_ok-children-in-Node.ensures.items
    c.in_ok-push-in-Node.ensures.items c.in_ok-tree-in-Node.ensures
