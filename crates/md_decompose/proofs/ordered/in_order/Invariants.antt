use Rattle.std.proofs.Common.{◌≡◌, ◌∷◌, ◌++◌, ◌+◌, ◌≤◌, length, map, vec_len, vec_capacity}
use Rattle.md_decompose.proofs.OrderLemmas.{class_of}
use Rattle.md_decompose.proofs.ordered.in_order.Given as goal

abbrev pub invariant-loop-mark : goal.invariant-loop-mark
invariant-loop-mark g l = record {
  listed : l.sets.items ≡ l.fn.first ∷ map class_of l.yielded;
  left : l.yielded ++ l.mark-iterator.rest.items ≡ l.initial.mark-iterator.rest.items;
  room : vec_len l.sets + length l.mark-iterator.rest.items ≤ vec_capacity l.sets;
}
