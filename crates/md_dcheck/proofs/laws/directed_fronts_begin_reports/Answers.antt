use Rattle.md_dcheck.proofs.DirectedPlaces.{fronts_begin_proof}
use Rattle.md_dcheck.proofs.laws.directed_fronts_begin_reports.Goals as goal

pub returns : goal.returns
returns c = record { law = fronts_begin_proof }
