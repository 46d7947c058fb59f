use Rattle.md_cotree.proofs.NoPaths.{cotree_graph}
use Rattle.md_cotree.proofs.laws.cotree_denotes_graph.Goals as goal

pub returns : goal.returns
returns c = cotree_graph
