use Rattle.std.proofs.Common.{◌≡◌, ◌++◌, map}
use Rattle.md_ddecompose.specs.Turns.{open_below}
use Rattle.md_ddecompose.proofs.decomposition.push_open.Given as goal

abbrev pub invariant-loop-names : goal.invariant-loop-names
invariant-loop-names g l = record {
  behind : l.waiting.items ≡ l.initial.waiting.items ++ map (open_below l.kind) l.yielded;
  left : l.yielded ++ l.names-iterator.rest.items ≡ l.initial.names-iterator.rest.items;
}
