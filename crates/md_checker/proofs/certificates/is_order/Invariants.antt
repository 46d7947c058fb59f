use Rattle.std.proofs.Common.{take}
use Rattle.md_checker.proofs.Ordering.{IsFront}
use Rattle.md_checker.proofs.certificates.is_order.Given as goal

abbrev pub invariant-loop-v : goal.invariant-loop-v
invariant-loop-v g l = IsFront l.graph.vertices l.seen (take l.v-index l.list)
