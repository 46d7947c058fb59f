use Rattle.md_modules.proofs.Quotients.{maximal_modules_proof}
use Rattle.md_modules.proofs.laws.prime_has_maximal_modules.Goals as goal

pub returns : goal.returns
returns c = record {
  law = maximal_modules_proof;
}
