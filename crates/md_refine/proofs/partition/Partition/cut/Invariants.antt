use Rattle.std.proofs.Common.{◌≡◌, ◌≤◌, ◌+◌, ◌*◌, length}
use Rattle.std.specs.List.{filter}
use Rattle.md_graph.specs.NameSet.{ascending}
use Rattle.md_graph.specs.Sets.{NameSet}
use Rattle.md_refine.specs.Partitions.{ArePartition, cut_outside, is_outside}
use Rattle.md_refine.proofs.Refining.{cut_by}
use Rattle.md_refine.proofs.partition.Partition.cut.Given as goal

abbrev pub invariant-loop : goal.invariant-loop
invariant-loop g l = record {
  cut : (s : NameSet) → l.fn.members ≡ ascending s → cut_by l.self ≡ cut_outside l.fn.p s l.fn.self.classes;
  partition : ArePartition l.self;
  steps : l.steps + length l.self.touched ≤ l.fn.steps + 2 * length (filter (is_outside l.fn.p l.fn.self.classes) l.fn.members);
}

abbrev pub decreases-loop : goal.decreases-loop
decreases-loop g l = length l.self.touched
