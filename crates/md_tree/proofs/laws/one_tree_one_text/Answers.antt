use Rattle.md_tree.proofs.Spelled.{graph_law}
use Rattle.md_tree.proofs.Texts.{one_text_proof}
use Rattle.md_tree.proofs.laws.one_tree_one_text.Goals as goal

pub returns : goal.returns
returns c = record {
  law = one_text_proof graph_law;
}
