use Rattle.md_bar_tree.proofs.BarLaw.{no_bar_if_few_inner_proof}
use Rattle.md_bar_tree.proofs.laws.no_bar_if_few_inner.Goals as goal

pub returns : goal.returns
returns c = record {
  law = no_bar_if_few_inner_proof;
}
