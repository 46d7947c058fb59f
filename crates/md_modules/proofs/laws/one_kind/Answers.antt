use Rattle.md_modules.proofs.Components.{one_kind_proof}
use Rattle.md_modules.proofs.laws.one_kind.Goals as goal

pub returns : goal.returns
returns c = record {
  law = one_kind_proof;
}
