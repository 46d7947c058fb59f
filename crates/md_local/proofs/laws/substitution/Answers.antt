use Rattle.md_local.proofs.Substituted.{substitution_proof}
use Rattle.md_local.proofs.laws.substitution.Goals as goal

pub returns : goal.returns
returns c = record {
  law = substitution_proof;
}
