use Rattle.std.proofs.Common.{◌≡◌, ◌++◌, ◌+◌, ◌≤◌, length, vec_len, vec_capacity}
use Rattle.md_decompose.proofs.OrderLemmas.{AreMarksOf}
use Rattle.md_decompose.proofs.ordered.marks.Given as goal

abbrev pub invariant-loop-class : goal.invariant-loop-class
invariant-loop-class g l = record {
  marks : AreMarksOf l.yielded l.marks.items;
  left : l.yielded ++ l.class-iterator.rest.items ≡ l.initial.class-iterator.rest.items;
  room : vec_len l.marks + length l.class-iterator.rest.items ≤ vec_capacity l.marks;
}
