use Rattle.std.proofs.Common.{sym, ◌∙◌}
use Rattle.md_graph.proofs.SetLemmas.{none_lacks, if_empty}
use Rattle.md_ddecompose.proofs.decomposition.decompose_directed.Goals as goal

pub returns-in_default : goal.returns-in_default
returns-in_default g c = record { tree = sym c.vertices-names.ensures.set ∙ if_empty c.vertices-names.result.now (none_lacks c.vertices-names.result.now c.in_default.ensures.none) }
