use Rattle.md_cotree.proofs.Kept.{one_graph}
use Rattle.md_cotree.proofs.laws.one_graph_of_a_cotree.Goals as goal

pub returns : goal.returns
returns c = one_graph
