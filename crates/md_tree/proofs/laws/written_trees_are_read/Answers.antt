use Rattle.md_graph.specs.declared.TheConstants.{NAMES}
use Rattle.md_tree.proofs.Spelled.{graph_law}
use Rattle.md_tree.proofs.ReadBack.{read_back_proof}
use Rattle.md_tree.proofs.laws.written_trees_are_read.Goals as goal

pub returns : goal.returns
returns c = record {
  law = read_back_proof graph_law NAMES;
}
