use Rattle.md_modules.proofs.Strong.{descend_proof}
use Rattle.md_modules.proofs.laws.strong_modules_descend.Goals as goal

pub returns : goal.returns
returns c = record {
  law = descend_proof;
}
