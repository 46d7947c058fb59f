use Rattle.md_modules.proofs.Quotients.{unsplit_proof}
use Rattle.md_modules.proofs.laws.unsplit_has_maximal_modules.Goals as goal

pub returns : goal.returns
returns g c = record {
  law = unsplit_proof _;
}
