use Rattle.md_tree.proofs.OneTree.{graph_proof}
use Rattle.md_tree.proofs.laws.graph_of_the_tree.Goals as goal

pub returns : goal.returns
returns c = record {
  law = graph_proof;
}
