use Rattle.md_dtree.proofs.OneDirected.{canonical_proof}
use Rattle.md_dtree.proofs.laws.directed_tree_is_canonical.Goals as goal

pub returns : goal.returns
returns c = record {
  law = canonical_proof;
}
