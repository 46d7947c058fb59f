-- The text of a graph as a DIMACS edge file.
-- Source: DIMACS, "Clique and coloring problems: graph format" (1993).
use Rattle.std.specs.Prelude.{◌≡◌, ℕ, ◌+◌, List, [], ◌∷◌, length, map, codes}
use Rattle.std.specs.List.{flat_map, join_with_byte}
use Rattle.std.specs.FinSet as set
use Rattle.md_graph.specs.Sets.{Has}
use Rattle.md_graph.specs.NameSet.{ascending, ascending_from, ascending_between}
use Rattle.md_graph.specs.PlainGraph.{PlainGraph, IsGraph, adjacent, neighbours}
use Rattle.md_text.specs.Lines.{ended}
use Rattle.md_text.specs.Numbers.{decimal}
use Rattle.md_dimacs.specs.Line.{is_vertex}

-- the place of a vertex among all vertices in ascending order, counted from 1
unfoldable pub position : PlainGraph → ℕ → ℕ
position g v = length (ascending_between g.vertices 0 v) + 1

-- the edges between v and the neighbours above it, ascending, as the places of their ends
unfoldable pub edges_above : PlainGraph → ℕ → List (ℕ × ℕ)
edges_above g v = map (λ w. (position g v, position g w)) (ascending_from (neighbours g v) (v + 1))

-- all edges as the places of their ends, the lower first, ascending by the lower, then by the higher
unfoldable pub edge_places : PlainGraph → List (ℕ × ℕ)
edge_places g = flat_map (edges_above g) (ascending g.vertices)

-- `e i j`
unfoldable pub edge_line : ℕ × ℕ → List ℕ
edge_line p = join_with_byte 32 (codes "e" ∷ decimal p.0 ∷ decimal p.1 ∷ [])

-- `p edge n m`, where n and m are the numbers of vertices and of edges
unfoldable pub problem_line : PlainGraph → List ℕ
problem_line g =
    join_with_byte 32 (codes "p" ∷ codes "edge" ∷ decimal (set.len g.vertices) ∷ decimal (set.len g.edges) ∷ [])

-- the text of a graph: its problem line, and a line for each edge, each ended by a line feed
unfoldable pub dimacs_text : PlainGraph → List ℕ
dimacs_text g = ended (problem_line g ∷ map edge_line (edge_places g))

-- h is g with each vertex named by its place: 1 to the number of vertices
pub record IsRenamed (g h : PlainGraph) : Type 0 where
  pub vertices : (v : ℕ) → set.contains h.vertices v ≡ is_vertex (set.len g.vertices) v
  pub edges : (u v : ℕ) → Has g.vertices u → Has g.vertices v
      → adjacent h (position g u) (position g v) ≡ adjacent g u v
  pub graph : IsGraph h
