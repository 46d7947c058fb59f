use Rattle.md_dcheck.proofs.DirectedPlaces.{have_trees_proof}
use Rattle.md_dcheck.proofs.laws.directed_reports_have_trees.Goals as goal

pub returns : goal.returns
returns c = record { law = have_trees_proof }
