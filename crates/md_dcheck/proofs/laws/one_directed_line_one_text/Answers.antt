use Rattle.md_dcheck.proofs.DirectedPlaces.{one_line_proof}
use Rattle.md_dcheck.proofs.laws.one_directed_line_one_text.Goals as goal

pub returns : goal.returns
returns c = record { law = one_line_proof }
