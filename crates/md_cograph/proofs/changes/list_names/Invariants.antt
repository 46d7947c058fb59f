use Rattle.std.proofs.Common.{◌≡◌, ◌+◌, ◌++◌, ◌≤◌, length, vec_len, vec_capacity}
use Rattle.md_graph.specs.NameSet.{ascending}
use Rattle.md_cograph.proofs.changes.list_names.Given as goal

abbrev pub invariant-loop-v : goal.invariant-loop-v
invariant-loop-v g l = record {
  listed : l.list.items ++ l.v-iterator ≡ ascending l.names;
  room : vec_len l.list + length l.v-iterator ≤ vec_capacity l.list;
  kept : vec_capacity l.list ≡ vec_capacity l.fn.list;
}
