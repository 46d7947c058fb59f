use Rattle.std.proofs.Common.{◌≡◌, ◌+◌, ◌++◌, ◌≤◌, length, vec_len, vec_capacity}
use Rattle.md_decompose.proofs.Opened.{AreBehind}
use Rattle.md_decompose.proofs.decomposition.push_open.Given as goal

abbrev pub invariant-loop-names : goal.invariant-loop-names
invariant-loop-names g l = record {
  behind : AreBehind l.kind l.initial.waiting.items l.waiting.items l.yielded;
  left : l.yielded ++ l.names-iterator.rest.items ≡ l.initial.names-iterator.rest.items;
  room : vec_len l.waiting + length l.names-iterator.rest.items ≤ vec_capacity l.waiting;
}
