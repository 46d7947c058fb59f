use Rattle.md_cotree.proofs.Cographs.{path_proof}
use Rattle.md_cotree.proofs.laws.no_path_in_its_graph.Goals as goal

pub returns : goal.returns
returns c = path_proof
