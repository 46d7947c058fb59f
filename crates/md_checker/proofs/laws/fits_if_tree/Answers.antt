use Rattle.md_checker.proofs.FitsTree.{fits_proof}
use Rattle.md_checker.proofs.laws.fits_if_tree.Goals as goal

pub returns : goal.returns
returns c = fits_proof
