use Rattle.md_dcheck.proofs.DirectedPlaces.{lines_lead_proof}
use Rattle.md_dcheck.proofs.laws.directed_lines_lead_if_first.Goals as goal

pub returns : goal.returns
returns c = record { law = lines_lead_proof }
