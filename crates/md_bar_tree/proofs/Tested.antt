-- Four numbers in the order of a bar, with the edges of one, are one.
use Rattle.std.proofs.Common.{ℕ, Bool, ◌↔◌, IsTrue, ◌∙◌}
use Rattle.md_graph.specs.Adjacency.{IsAdjacency}
use Rattle.md_graph.specs.PlainGraph.{PlainGraph, IsGraph, adjacent}
use Rattle.md_graph.proofs.GraphLemmas.{adjacent_ends}
use Rattle.md_modules.proofs.Turns.{graph_adjacency}
use Rattle.md_bar_tree.specs.Bars.{IsInducedCycle, AreTwoEdges}
use Rattle.md_bar_tree.specs.Edges.{HasCycleEdges, HasTwoEdges, IsCycleOrder, IsPairOrder}
use Rattle.md_bar_tree.proofs.TwoPairs.{cycle_of, edges_of}

module _ {g : PlainGraph} (is : IsGraph g) (a b c d : ℕ) where
  adj : IsAdjacency (adjacent g)
  adj = graph_adjacency is

  pub cycle_by_edges : IsCycleOrder a b c d → (r : Bool) → IsTrue r ↔ HasCycleEdges (adjacent g) a b c d → IsTrue r ↔ IsInducedCycle (adjacent g) g.vertices a b c d
  cycle_by_edges up r told = (
    (λ h.
        let k : HasCycleEdges (adjacent g) a b c d = told.0 h in
        let first = adjacent_ends is a b k.edges.0 in
        let second = adjacent_ends is c d k.edges.2 in
        cycle_of adj g.vertices a c b d
        (record { pairs = k.apart; across = (k.edges.0, adj.symmetric a d ∙ k.edges.3, adj.symmetric c b ∙ k.edges.1, k.edges.2) })
        (first.0, second.0, first.1, second.1) (up.1, up.3, up.0)),
    λ k. told.1 (record { edges = k.edges; apart = k.apart }),
  )

  pub two_by_edges : IsPairOrder a b c d → (r : Bool) → IsTrue r ↔ HasTwoEdges (adjacent g) a b c d → IsTrue r ↔ AreTwoEdges (adjacent g) g.vertices a b c d
  two_by_edges up r told = (
    (λ h.
        let k : HasTwoEdges (adjacent g) a b c d = told.0 h in
        let first = adjacent_ends is a b k.edges.0 in
        let second = adjacent_ends is c d k.edges.1 in
        edges_of adj g.vertices a b c d (record { pairs = k.edges; across = k.apart }) (first.0, first.1, second.0, second.1) up),
    λ k. told.1 (record { edges = k.edges; apart = k.apart }),
  )
