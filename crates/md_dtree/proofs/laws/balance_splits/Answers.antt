use Rattle.md_dtree.proofs.BalanceLaws.{balance_proof}
use Rattle.md_dtree.proofs.laws.balance_splits.Goals as goal

pub returns : goal.returns
returns c = record {
  law = balance_proof;
}
