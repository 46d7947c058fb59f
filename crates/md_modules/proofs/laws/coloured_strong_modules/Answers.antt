use Rattle.md_modules.proofs.Strong.{coloured_tree_proof}
use Rattle.md_modules.proofs.laws.coloured_strong_modules.Goals as goal

pub returns : goal.returns
returns g c = record {
  law = coloured_tree_proof _;
}
