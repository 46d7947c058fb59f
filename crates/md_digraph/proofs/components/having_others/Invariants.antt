use Rattle.std.proofs.Common.{ℕ}
use Rattle.md_graph.specs.Sets.{Has}
use Rattle.md_digraph.proofs.ArcTurns.{HasOthers}
use Rattle.md_digraph.proofs.components.having_others.Given as goal
use Rattle.md_graph.proofs.Walks.{Walked}

abbrev pub invariant-loop-y : goal.invariant-loop-y
invariant-loop-y g l = record {
  all : Walked l.left l.y-iterator (λ y. HasOthers l.graph y l.both l.taken → Has l.new y);
  alone : (y : ℕ) → Has l.new y → Has l.left y × HasOthers l.graph y l.both l.taken;
}
