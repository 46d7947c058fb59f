use Rattle.std.proofs.Common.{◌≡◌, ◌++◌, ◌+◌, ◌≤◌, map, length, vec_len, vec_capacity}
use Rattle.md_decompose.specs.Refined.{set_or_empty}
use Rattle.md_decompose.proofs.refined.all_made.Given as goal

abbrev pub invariant-loop-set : goal.invariant-loop-set
invariant-loop-set g l = record {
  made : l.made.items ≡ map set_or_empty l.yielded;
  left : l.yielded ++ l.set-iterator.rest.items ≡ l.initial.set-iterator.rest.items;
  room : vec_len l.made + length l.set-iterator.rest.items ≤ vec_capacity l.made;
}
