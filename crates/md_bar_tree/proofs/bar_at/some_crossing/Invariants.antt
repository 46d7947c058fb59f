use Rattle.md_graph.specs.PlainGraph.{adjacent}
use Rattle.md_graph.proofs.Walks.{Walked}
use Rattle.md_bar_tree.specs.Crossing.{AreCrossing}
use Rattle.md_bar_tree.proofs.bar_at.some_crossing.Given as goal

abbrev pub invariant-loop-q : goal.invariant-loop-q
invariant-loop-q g l = Walked l.others l.q-iterator (λ q. AreCrossing (adjacent l.graph) l.w q → ⊥)
