use Rattle.md_cotree.proofs.NoPaths.{cotree_no_path}
use Rattle.md_cotree.proofs.laws.no_path_in_a_cotree.Goals as goal

pub returns : goal.returns
returns c = cotree_no_path
