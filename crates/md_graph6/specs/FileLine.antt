-- A line of a graph file: a sparse6 line where it begins with `:`, and else a graph6 line.
-- Source: B. McKay, "Description of graph6, sparse6 and digraph6 encodings".
use Rattle.std.specs.Prelude.{◌≡◌, ◌⊎◌, ℕ, ◌==◌, List, [], ◌∷◌, get_or, drop, if◌then◌else◌, Option, None}
use Rattle.md_graph.specs.PlainGraph.{PlainGraph}
use Rattle.md_graph6.specs.declared.fault.G6Kind.{G6Kind}
use Rattle.md_graph6.specs.Line.{SpellsGraph6, graph6_fault, graph_of_graph6}
use Rattle.md_graph6.specs.SparseLine.{SpellsSparse, sparse_fault, graph_of_sparse}

-- the line is a graph6 line of the graph, or `:` and what spells the graph in sparse6
abbrev pub SpellsLine : ℕ → List ℕ → PlainGraph → Type 0
SpellsLine limit line g =
    SpellsGraph6 limit line g ⊎ ((rest : List ℕ) × (line ≡ 58 ∷ rest) × SpellsSparse limit rest g)

-- the first fault of a line under a limit of the number of vertices; an empty line has none
unfoldable pub line_fault : ℕ → List ℕ → Option G6Kind
line_fault limit [] = None
line_fault limit (byte ∷ rest) = if byte == 58 then sparse_fault limit rest else graph6_fault limit (byte ∷ rest)

-- the graph that a line spells which has no fault and isn't empty
unfoldable pub graph_of_line : List ℕ → PlainGraph
graph_of_line line = if get_or line 0 0 == 58 then graph_of_sparse (drop 1 line) else graph_of_graph6 line

-- a line from its size on
abbrev pub from_size : List ℕ → List ℕ
from_size line = if get_or line 0 0 == 58 then drop 1 line else line
