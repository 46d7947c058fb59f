use Rattle.md_dtree.proofs.FitsDirected.{fits_proof}
use Rattle.md_dtree.proofs.laws.fits_if_directed_tree.Goals as goal

pub returns : goal.returns
returns c = record {
  law = fits_proof;
}
