use Rattle.md_orient.specs.Models.{comes_before}
use Rattle.md_orient.proofs.Modelling.{IsPlacing}
use Rattle.md_orient.proofs.permutation.in_order.Given as goal

abbrev pub invariant-loop-v : goal.invariant-loop-v
invariant-loop-v g l = IsPlacing (comes_before l.edges l.others l.turned) l.graph.vertices l.list.items l.v-iterator
