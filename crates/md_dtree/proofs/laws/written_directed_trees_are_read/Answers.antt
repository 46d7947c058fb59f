use Rattle.md_digraph.specs.declared.TheConstants.{DIRECTED_NAMES}
use Rattle.md_tree.proofs.ReadBack.{read_back_proof}
use Rattle.md_dtree.proofs.ArcKinds.{directed_spelling_law}
use Rattle.md_dtree.proofs.laws.written_directed_trees_are_read.Goals as goal

pub returns : goal.returns
returns c = record {
  law = read_back_proof directed_spelling_law DIRECTED_NAMES;
}
