use Rattle.md_tree.proofs.Spelled.{is_spelling}
use Rattle.md_tree.proofs.ReadBack.{read_back_proof}
use Rattle.md_tree.proofs.laws.spelled_trees_are_read.Goals as goal

pub returns : goal.returns
returns g c = record {
  law = read_back_proof (is_spelling g.met.K.Lettered.laws g.met.P.Paired.laws);
}
