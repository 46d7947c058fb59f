use Rattle.std.proofs.Common.{◌≡◌, ◌+◌, ◌++◌, length}
use Rattle.std.specs.List.{filter}
use Rattle.md_refine.specs.Partitions.{is_outside, ArePartition}
use Rattle.md_refine.proofs.partition.Partition.touch_outside.Given as goal

abbrev pub invariant-loop-v : goal.invariant-loop-v
invariant-loop-v g l = record {
  list : l.yielded ++ l.v-iterator ≡ l.fn.members;
  classes : l.self.classes ≡ l.initial.self.classes;
  touched : l.self.touched ≡ filter (is_outside l.fn.p l.initial.self.classes) l.yielded;
  partition : ArePartition l.self;
  steps : l.steps ≡ l.initial.steps + length (filter (is_outside l.fn.p l.initial.self.classes) l.yielded);
}
