use Rattle.std.proofs.Common.{◌++◌, ◌∙◌, ap}
use Rattle.md_tree.specs.Plain.{trees_of}
use Rattle.md_local.proofs.Placing.{leaf_appended, node_appended}
use Rattle.md_local.proofs.merging.append_children.Goals as goal

pub returns-in-Node : goal.returns-in-Node
returns-in-Node c =
    node_appended c.args.tree c.in-Node.field-0 c.in-Node.children c.in-Node.field-2 c.args.list.now.items c.append.new.self.items c.in-Node.is
    (c.in_ok-append.ensures.items ∙ ap (λ x. c.args.list.now.items ++ trees_of x) c.in-Node.children-is)

pub returns : goal.returns
returns c = leaf_appended c.args.tree c.in_default.field-0 c.args.list.now.items c.in_default.is
