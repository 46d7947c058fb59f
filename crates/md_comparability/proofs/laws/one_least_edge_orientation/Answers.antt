use Rattle.md_comparability.proofs.OneList.{one_list_proof}
use Rattle.md_comparability.proofs.laws.one_least_edge_orientation.Goals as goal

pub returns : goal.returns
returns c = one_list_proof
