use Rattle.md_digraph.proofs.DigraphLemmas.{empty_without_vertices}
use Rattle.md_digraph.proofs.laws.digraph_without_vertices_is_empty.Goals as goal

pub returns : goal.returns
returns c = record {
  law = empty_without_vertices;
}
