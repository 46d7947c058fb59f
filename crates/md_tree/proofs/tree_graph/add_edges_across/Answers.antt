use Rattle.std.proofs.Common.{subst}
use Rattle.md_tree.specs.Plain.{row_of_children}
use Rattle.md_tree.specs.WellFormed.{HasShape}
use Rattle.md_tree.proofs.tree_graph.add_edges_across.Goals as goal

pub join_listed-requires-clause-positions : goal.join_listed-requires-clause-positions
join_listed-requires-clause-positions c =
    (subst (λ k. HasShape k (row_of_children c.args.children.now) c.args.edges.now.list.items) c.in-Prime.is c.requires.canonical.shape).positions
