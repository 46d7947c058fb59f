-- A graph before and after an edit of one edge.
-- Source: dynamic graphs, as in any textbook on graph algorithms.
use Rattle.std.specs.Prelude.{◌≡◌, ℕ}
use Rattle.md_graph.specs.PlainGraph.{PlainGraph, IsGraph, adjacent}
use Rattle.md_local.specs.Changes.{AgreeBut}

-- g is a graph with the vertices of h, and with its edges, but perhaps for the one between u and v
pub record IsEdited (g h : PlainGraph) (u v : ℕ) : Type 0 where
  pub before : IsGraph g
  pub vertices : h.vertices ≡ g.vertices
  pub edges : AgreeBut (adjacent g) (adjacent h) u v
