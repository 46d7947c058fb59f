use Rattle.md_tree.proofs.Spelled.{is_spelling}
use Rattle.md_tree.proofs.Texts.{one_text_proof}
use Rattle.md_tree.proofs.laws.one_spelled_tree_one_text.Goals as goal

pub returns : goal.returns
returns g c = record {
  law = one_text_proof (is_spelling g.met.K.Lettered.laws g.met.P.Paired.laws);
}
