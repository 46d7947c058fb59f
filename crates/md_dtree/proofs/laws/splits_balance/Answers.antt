use Rattle.md_dtree.proofs.BalanceLaws.{splits_proof}
use Rattle.md_dtree.proofs.laws.splits_balance.Goals as goal

pub returns : goal.returns
returns c = record {
  law = splits_proof;
}
