use Rattle.md_tree.proofs.OneTree.{well_formed_proof}
use Rattle.md_tree.proofs.laws.tree_is_well_formed.Goals as goal

pub returns : goal.returns
returns c = record {
  law = well_formed_proof;
}
