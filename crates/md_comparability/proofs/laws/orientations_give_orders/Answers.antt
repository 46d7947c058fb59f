use Rattle.md_comparability.proofs.OrderLaws.{orders_proof}
use Rattle.md_comparability.proofs.laws.orientations_give_orders.Goals as goal

pub returns : goal.returns
returns c = orders_proof
