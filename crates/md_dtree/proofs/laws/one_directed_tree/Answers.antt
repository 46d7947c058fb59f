use Rattle.md_dtree.proofs.OneDirected.{one_tree_proof}
use Rattle.md_dtree.proofs.laws.one_directed_tree.Goals as goal

pub returns : goal.returns
returns c = record {
  law = one_tree_proof;
}
