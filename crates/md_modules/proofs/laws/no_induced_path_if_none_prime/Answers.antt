use Rattle.md_modules.proofs.Paths.{no_path_proof}
use Rattle.md_modules.proofs.laws.no_induced_path_if_none_prime.Goals as goal

pub returns : goal.returns
returns c = record {
  law = no_path_proof;
}
