use Rattle.md_modules.proofs.PathSearch.{Meeting}
use Rattle.md_modules.proofs.induced_paths.met_by.Given as goal

abbrev pub invariant-loop-o : goal.invariant-loop-o
invariant-loop-o g l = Meeting l.graph l.names l.others l.value l.left l.met l.o-iterator
