use Rattle.md_modules.proofs.Paths.{prime_path_proof}
use Rattle.md_modules.proofs.laws.prime_has_induced_path.Goals as goal

pub returns : goal.returns
returns c = record {
  law = prime_path_proof;
}
