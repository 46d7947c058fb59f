use Rattle.md_modules.proofs.Splits.{one_colour_proof}
use Rattle.md_modules.proofs.laws.splits_have_one_colour.Goals as goal

pub returns : goal.returns
returns g c = record {
  law = one_colour_proof _;
}
