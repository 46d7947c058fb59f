use Rattle.md_tree.proofs.OneTree.{one_tree_proof}
use Rattle.md_tree.proofs.laws.one_tree.Goals as goal

pub returns : goal.returns
returns c = record {
  law = one_tree_proof;
}
