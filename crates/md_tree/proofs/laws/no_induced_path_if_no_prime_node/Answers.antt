use Rattle.md_tree.proofs.OneTree.{no_path_proof}
use Rattle.md_tree.proofs.laws.no_induced_path_if_no_prime_node.Goals as goal

pub returns : goal.returns
returns c = record {
  law = no_path_proof;
}
