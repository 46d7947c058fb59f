use Rattle.md_graph.proofs.Walks.{Walked}
use Rattle.md_modules.specs.Classes.{IsSplitter}
use Rattle.md_digraph.specs.PlainDigraph.{has_arc_to}
use Rattle.md_digraph.specs.ArcColours.{between}
use Rattle.md_digraph.proofs.refinement.row_by_others.Given as goal

abbrev pub invariant-loop-p : goal.invariant-loop-p
invariant-loop-p g l = Walked l.others l.p-iterator (λ p. IsSplitter (between (has_arc_to l.graph)) l.others l.class p → ⊥)
