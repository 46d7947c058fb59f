use Rattle.md_comparability.proofs.Shortest.{shortest_proof}
use Rattle.md_comparability.proofs.laws.chain_has_shortest.Goals as goal

pub returns : goal.returns
returns c = shortest_proof
