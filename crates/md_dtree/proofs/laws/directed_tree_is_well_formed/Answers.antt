use Rattle.md_dtree.proofs.OneDirected.{well_formed_proof}
use Rattle.md_dtree.proofs.laws.directed_tree_is_well_formed.Goals as goal

pub returns : goal.returns
returns c = record {
  law = well_formed_proof;
}
