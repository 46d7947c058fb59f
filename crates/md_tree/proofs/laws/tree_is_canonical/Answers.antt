use Rattle.md_tree.proofs.OneTree.{canonical_proof}
use Rattle.md_tree.proofs.laws.tree_is_canonical.Goals as goal

pub returns : goal.returns
returns c = record {
  law = canonical_proof;
}
