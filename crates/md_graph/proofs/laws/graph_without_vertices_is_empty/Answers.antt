use Rattle.md_graph.proofs.GraphLemmas.{empty_without_vertices}
use Rattle.md_graph.proofs.laws.graph_without_vertices_is_empty.Goals as goal

pub returns : goal.returns
returns c = record {
  law = empty_without_vertices;
}
