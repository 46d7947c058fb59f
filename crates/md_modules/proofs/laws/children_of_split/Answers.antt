use Rattle.md_modules.proofs.Splits.{split_children_proof}
use Rattle.md_modules.proofs.laws.children_of_split.Goals as goal

pub returns : goal.returns
returns g c = record {
  law = split_children_proof _;
}
