use Rattle.std.proofs.Common.{sym, ◌∙◌}
use Rattle.md_graph.proofs.GraphLemmas.{with_edge_there}
use Rattle.md_graph.proofs.listed.join.Goals as goal

pub returns-else-not-has_edge-clause-joined : goal.returns-else-not-has_edge-clause-joined
returns-else-not-has_edge-clause-joined g c =
    λ _. with_edge_there c.args.graph.now c.args.u c.args.v (sym c.has_edge.ensures.value ∙ c.if-not-has_edge.false)
