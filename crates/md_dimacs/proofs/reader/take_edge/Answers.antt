use Rattle.std.proofs.Common.{sym, ◌∙◌}
use Rattle.md_graph.proofs.GraphLemmas.{with_edge_there}
use Rattle.md_dimacs.proofs.reader.take_edge.Goals as goal

pub returns-else-not-has_edge : goal.returns-else-not-has_edge
returns-else-not-has_edge g c = with_edge_there c.args.graph.now c.args.u c.args.v (sym c.has_edge.ensures.value ∙ c.if-not-has_edge.false)
