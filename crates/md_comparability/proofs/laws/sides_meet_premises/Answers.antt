use Rattle.md_comparability.proofs.Reached.{sides_proof}
use Rattle.md_comparability.proofs.laws.sides_meet_premises.Goals as goal

pub returns : goal.returns
returns c = sides_proof
