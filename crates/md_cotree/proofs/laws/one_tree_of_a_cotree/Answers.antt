use Rattle.md_cotree.proofs.Kept.{one_kept}
use Rattle.md_cotree.proofs.laws.one_tree_of_a_cotree.Goals as goal

pub returns : goal.returns
returns c = one_kept
