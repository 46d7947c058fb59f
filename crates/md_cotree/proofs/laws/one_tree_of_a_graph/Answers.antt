use Rattle.md_cotree.proofs.Cographs.{one_proof}
use Rattle.md_cotree.proofs.laws.one_tree_of_a_graph.Goals as goal

pub returns : goal.returns
returns c = one_proof
