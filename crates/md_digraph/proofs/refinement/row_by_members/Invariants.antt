use Rattle.std.proofs.Common.{◌≡◌, ℕ}
use Rattle.md_graph.specs.Sets.{Has}
use Rattle.md_graph.proofs.Walks.{Walked}
use Rattle.md_digraph.specs.PlainDigraph.{has_arc_to}
use Rattle.md_digraph.specs.ArcColours.{between}
use Rattle.md_digraph.proofs.refinement.row_by_members.Given as goal

abbrev pub invariant-loop-x : goal.invariant-loop-x
invariant-loop-x g l = Walked l.class l.x-iterator (λ w. (y : ℕ) → Has l.others y → between (has_arc_to l.graph) l.first y ≡ between (has_arc_to l.graph) w y)
