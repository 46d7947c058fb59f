use Rattle.md_comparability.proofs.Chosen.{least_edge_proof}
use Rattle.md_comparability.proofs.laws.least_edge_is_transitive.Goals as goal

pub returns : goal.returns
returns c = least_edge_proof
