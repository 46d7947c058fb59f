use Rattle.md_comparability.proofs.Alternative.{alternative_proof}
use Rattle.md_comparability.proofs.laws.chain_or_orientation.Goals as goal

pub returns : goal.returns
returns c = alternative_proof
