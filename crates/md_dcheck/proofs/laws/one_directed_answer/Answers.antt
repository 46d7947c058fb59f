use Rattle.md_dcheck.proofs.DirectedPlaces.{one_answer_proof}
use Rattle.md_dcheck.proofs.laws.one_directed_answer.Goals as goal

pub returns : goal.returns
returns c = record { law = one_answer_proof }
