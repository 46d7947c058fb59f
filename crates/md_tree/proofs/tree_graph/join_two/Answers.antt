use Rattle.std.proofs.Common.{sym, ◌∙◌}
use Rattle.md_graph.proofs.GraphLemmas.{with_edge_there}
use Rattle.md_tree.proofs.tree_graph.join_two.Goals as goal

pub returns-then-has_edge : goal.returns-then-has_edge
returns-then-has_edge c = with_edge_there c.args.graph.now c.args.name c.args.other (sym c.has_edge.ensures.value ∙ c.if-has_edge.true)
