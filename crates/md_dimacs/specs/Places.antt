-- The places of vertices, spelled as pieces of text.
use Rattle.std.specs.Prelude.{◌≡◌, ℕ, ◌<◌, ◌≤◌, List, [], ◌∷◌, ◌++◌, length, map, slice_index_or, codes}
use Rattle.md_graph.specs.declared.TheConstants.{NAMES}
use Rattle.md_graph.specs.Sets.{Has}
use Rattle.md_graph.specs.PlainGraph.{PlainGraph}
use Rattle.md_text.specs.Lines.{ended}
use Rattle.md_text.specs.Numbers.{decimal}
use Rattle.md_text.specs.declared.piece.Piece.{Piece}
use Rattle.md_text.specs.Pieces.{piece_text}
use Rattle.md_dimacs.specs.Text.{position, edges_above, edge_places, edge_line}

-- the piece at index w is a space, the place of the vertex w and a line feed, and has at most seven bytes
pub record IsPlaceOf (g : PlainGraph) (places : List Piece) (w : ℕ) : Type 0 where
  pub there : w < length places
  pub text : (other : Piece) → piece_text (slice_index_or places w other) ≡ 32 ∷ (decimal (position g w) ++ 10 ∷ [])
  pub short : (other : Piece) → length (piece_text (slice_index_or places w other)) ≤ 7

-- each vertex has its place at its index, and there are not more than names
pub record ArePlaces (g : PlainGraph) (places : List Piece) : Type 0 where
  pub place_of : (w : ℕ) → Has g.vertices w → IsPlaceOf g places w
  pub named : length places ≤ NAMES

-- `e i`, which begins each line of the edges of v to the vertices above it
abbrev pub line_start : PlainGraph → ℕ → List ℕ
line_start g v = codes "e " ++ decimal (position g v)

-- the lines of the edges of v to the vertices above it
unfoldable pub vertex_lines : PlainGraph → ℕ → List ℕ
vertex_lines g v = ended (map edge_line (edges_above g v))

-- the lines of all edges
unfoldable pub edges_text : PlainGraph → List ℕ
edges_text g = ended (map edge_line (edge_places g))
