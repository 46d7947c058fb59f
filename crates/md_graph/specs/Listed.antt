-- The graph that a list of edges makes. Source: any textbook on graphs.
use Rattle.std.specs.Prelude.{ℕ, ◌≢◌, List, map}
use Rattle.std.specs.List.{All}
use Rattle.std.specs.FinSet as set
use Rattle.md_graph.specs.Sets.{NameSet, Has}
use Rattle.md_graph.specs.NameSet.{range}
use Rattle.md_graph.specs.PlainGraph.{PlainGraph, edge}

-- the two numbers of the pair are different members of s
pub record AreEnds (s : NameSet) (p : ℕ × ℕ) : Type 0 where
  pub first : Has s p.0
  pub second : Has s p.1
  pub differ : p.0 ≢ p.1

-- each pair of the list has two different ends among the vertices below count
abbrev pub AreEdgesBelow : ℕ → List (ℕ × ℕ) → Type 0
AreEdgesBelow count pairs = All (AreEnds (range 0 count)) pairs

-- the graph with the vertices below count, and an edge for each pair of the list
abbrev pub graph_of_list : ℕ → List (ℕ × ℕ) → PlainGraph
graph_of_list count pairs = record {
  vertices = range 0 count;
  edges = set.from_list (map (λ p. edge p.0 p.1) pairs);
}
