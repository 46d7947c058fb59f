use Rattle.md_tree.proofs.Texts.{one_text_proof}
use Rattle.md_dtree.proofs.ArcKinds.{directed_spelling_law}
use Rattle.md_dtree.proofs.laws.one_directed_tree_one_text.Goals as goal

pub returns : goal.returns
returns c = record {
  law = one_text_proof directed_spelling_law;
}
