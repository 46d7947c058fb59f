use Rattle.std.proofs.Common.{◌≡◌, ◌++◌}
use Rattle.md_graph.specs.NameSet.{ascending}
use Rattle.md_decompose.proofs.nested_modules.take_members.Given as goal

abbrev pub invariant-loop-name : goal.invariant-loop-name
invariant-loop-name g l = l.taken.items ++ l.name-iterator ≡ l.initial.taken.items ++ ascending l.names
