use Rattle.md_modules.proofs.Complement.{complement_proof}
use Rattle.md_modules.proofs.laws.complement_turns_kinds.Goals as goal

pub returns : goal.returns
returns c = record {
  law = complement_proof;
}
