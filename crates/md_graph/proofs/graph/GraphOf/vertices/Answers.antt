use Rattle.md_graph.proofs.GraphLemmas.{IsGraph-graph_of}
use Rattle.md_graph.proofs.graph.GraphOf.vertices.Goals as goal

pub returns-clause-graph : goal.returns-clause-graph
returns-clause-graph g c = rw (← c.self.view_is) (IsGraph-graph_of c.self.invariant.0)
