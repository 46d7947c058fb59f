use Rattle.md_modules.proofs.DecidedPaths.{induced_paths_are_decided}
use Rattle.md_modules.proofs.laws.induced_paths_are_decided.Goals as goal

pub returns : goal.returns
returns c = record {
  law = induced_paths_are_decided;
}
