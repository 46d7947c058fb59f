-- A file of graph6 and sparse6 lines: its lines, the graphs that it spells, and its first fault.
-- Source: B. McKay, "Description of graph6, sparse6 and digraph6 encodings"; the faults are this project's.
use Rattle.std.specs.Prelude.{◌≡◌, ℕ, List, [], ◌∷◌, length, map, drop, if◌then◌else◌, nat_eq, Option, None, codes}
use Rattle.std.specs.List.{starts_with}
use Rattle.md_graph.specs.declared.TheConstants.{NAMES}
use Rattle.md_graph.specs.PlainGraph.{PlainGraph}
use Rattle.md_text.specs.Lines.{lines, without_return}
use Rattle.md_text.specs.Spelling.{first_fault_behind}
use Rattle.md_graph6.specs.declared.fault.G6Fault.{G6Fault}
use Rattle.md_graph6.specs.declared.fault.G6Kind.{G6Kind}
use Rattle.md_graph6.specs.FileLine.{SpellsLine, line_fault, graph_of_line}

-- the bytes `>>graph6<<`, with which a file may begin
abbrev pub header : List ℕ
header = codes ">>graph6<<"

-- the bytes `>>sparse6<<`, with which it may begin in place of these
abbrev pub sparse_header : List ℕ
sparse_header = codes ">>sparse6<<"

-- the file without the header, which says nothing of the lines behind it
abbrev pub without_header : List ℕ → List ℕ
without_header bytes =
    if starts_with nat_eq bytes header then drop (length header) bytes else
    if starts_with nat_eq bytes sparse_header then drop (length sparse_header) bytes else bytes

-- the lines of a text, each without one byte 13 at its end; empty ones are among them
abbrev pub stripped_lines : List ℕ → List (List ℕ)
stripped_lines bytes = map without_return (lines bytes)

-- the lines from the first on that isn't empty
unfoldable pub from_first : List (List ℕ) → List (List ℕ)
from_first [] = []
from_first ([] ∷ more) = from_first more
from_first ((byte ∷ line) ∷ more) = (byte ∷ line) ∷ more

-- the lines of a graph file
abbrev pub file_lines : List ℕ → List (List ℕ)
file_lines bytes = stripped_lines (without_header bytes)

-- the lines that aren't empty spell the graphs, one each, in order; `Line` says what a line spells
unfoldable pub SpellEach : {G : Type 0} → (List ℕ → G → Type 0) → List (List ℕ) → List G → Type 0
SpellEach Line [] graphs = graphs ≡ []
SpellEach Line ([] ∷ more) graphs = SpellEach Line more graphs
SpellEach Line ((byte ∷ line) ∷ more) [] = ⊥
SpellEach Line ((byte ∷ line) ∷ more) (g ∷ graphs) = Line (byte ∷ line) g × SpellEach Line more graphs

-- the bytes of a file spell the graphs, under a limit of the number of vertices
abbrev pub Spells : ℕ → List ℕ → List PlainGraph → Type 0
Spells limit bytes graphs = SpellEach (SpellsLine limit) (file_lines bytes) graphs

-- a kind as the fault of a line
abbrev pub fault_at : G6Kind → ℕ → G6Fault
fault_at kind line = record { kind = kind; line = line }

-- the first fault of lines behind `before` others, by the first fault of each line
abbrev pub fault_behind : (List ℕ → Option G6Kind) → ℕ → List (List ℕ) → Option G6Fault
fault_behind of_line = first_fault_behind {S = Unit {0}} fault_at (λ _ line. of_line line) (λ seen _. seen) (λ _ _. None) tt

-- the same, under a limit of the number of vertices
abbrev pub fault_after : ℕ → ℕ → List (List ℕ) → Option G6Fault
fault_after limit = fault_behind (line_fault limit)

-- The first fault of a file under a limit of the number of vertices: that of its first faulty line, with the number of
-- the line, counted from 1.
abbrev pub first_fault : ℕ → List ℕ → Option G6Fault
first_fault limit bytes = fault_after limit 0 (file_lines bytes)

-- no line has a fault under the greatest limit
abbrev pub HasNoFault : List (List ℕ) → Type 0
HasNoFault all = fault_after NAMES 0 all ≡ None

-- the graphs of lines without fault, one for each that isn't empty, by the graph of each line
unfoldable pub graphs_of_lines : {G : Type 0} → (List ℕ → G) → List (List ℕ) → List G
graphs_of_lines graph_of [] = []
graphs_of_lines graph_of ([] ∷ more) = graphs_of_lines graph_of more
graphs_of_lines graph_of ((byte ∷ line) ∷ more) = graph_of (byte ∷ line) ∷ graphs_of_lines graph_of more

-- the graphs of a text without fault that has no header
abbrev pub graphs_in : List ℕ → List PlainGraph
graphs_in text = graphs_of_lines graph_of_line (stripped_lines text)

-- the graphs of a file without fault
abbrev pub graphs_of : List ℕ → List PlainGraph
graphs_of bytes = graphs_in (without_header bytes)
