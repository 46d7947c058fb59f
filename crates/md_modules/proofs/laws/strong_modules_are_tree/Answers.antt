use Rattle.md_modules.proofs.Strong.{tree_proof}
use Rattle.md_modules.proofs.laws.strong_modules_are_tree.Goals as goal

pub returns : goal.returns
returns c = record {
  law = tree_proof;
}
