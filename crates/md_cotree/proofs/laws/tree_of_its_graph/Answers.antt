use Rattle.md_cotree.proofs.Cographs.{tree_proof}
use Rattle.md_cotree.proofs.laws.tree_of_its_graph.Goals as goal

pub returns : goal.returns
returns c = tree_proof
