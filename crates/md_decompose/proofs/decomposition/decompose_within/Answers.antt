use Rattle.md_graph.proofs.SetLemmas.{none_lacks, if_empty}
use Rattle.md_decompose.proofs.decomposition.decompose_within.Goals as goal

pub returns-in_default : goal.returns-in_default
returns-in_default g c = record { tree = if_empty c.args.names.now (none_lacks c.args.names.now c.in_default.ensures.none) }
