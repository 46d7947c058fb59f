use Rattle.md_dcheck.proofs.DirectedPlaces.{right_trees_proof}
use Rattle.md_dcheck.proofs.laws.right_trees_are_accepted.Goals as goal

pub returns : goal.returns
returns c = record { law = right_trees_proof }
