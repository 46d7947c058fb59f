use Rattle.md_tree.proofs.OneTree.{tells_proof}
use Rattle.md_tree.proofs.laws.tree_tells_graph.Goals as goal

pub returns : goal.returns
returns c = record {
  law = tells_proof;
}
