use Rattle.md_modules.proofs.Children.{children_of_kinds}
use Rattle.md_modules.proofs.laws.children_by_kind.Goals as goal

pub returns : goal.returns
returns c = record {
  law = λ e adj s. children_of_kinds adj s;
}
