use Rattle.std.specs.FinSet.{len}
use Rattle.md_modules.proofs.PathSearch.{Searched}
use Rattle.md_modules.proofs.induced_paths.path_by_parts.Given as goal

abbrev pub invariant-loop-y : goal.invariant-loop-y
invariant-loop-y g l = Searched l.graph l.names l.others l.value l.left

abbrev pub decreases-loop-y : goal.decreases-loop-y
decreases-loop-y g l = len l.left
