use Rattle.md_comparability.proofs.OrderLaws.{no_chain_proof}
use Rattle.md_comparability.proofs.laws.orders_if_no_chain.Goals as goal

pub returns : goal.returns
returns c = no_chain_proof
