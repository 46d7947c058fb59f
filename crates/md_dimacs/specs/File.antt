-- A DIMACS edge file: the graph that it spells, and its first fault.
-- Source: DIMACS, "Clique and coloring problems: graph format" (1993); the faults are this project's.
use Rattle.std.specs.Prelude.{◌≡◌, ℕ, ◌+◌, ◌<◌, ◌≢◌, ◌==◌, ◌&&◌, ◌||◌, ◌⊎◌, Bool, false, List, ◌∷◌, ◌++◌, Option, None, Some, IsTrue}
use Rattle.std.specs.List.{All, list_any}
use Rattle.std.specs.FinSet as set
use Rattle.md_graph.specs.PlainGraph.{PlainGraph, IsGraph, adjacent}
use Rattle.md_text.specs.Lines.{lines}
use Rattle.md_text.specs.Spelling.{words, first_fault_behind}
use Rattle.md_dimacs.specs.declared.fault.DimacsFault.{DimacsFault}
use Rattle.md_dimacs.specs.declared.fault.DimacsKind.{DimacsKind}
use Rattle.md_dimacs.specs.declared.fault.DimacsKind.TheVariants.{NoProblemLine}
use Rattle.md_dimacs.specs.declared.line.LineClass.TheVariants.{Passed}
use Rattle.md_dimacs.specs.Line.{class_of, sizes_of, ends_of, is_vertex, fault_of_line}

-- a line that is read past: it has no field, is a comment, or begins with `n`, `d`, `v` or `x`
abbrev pub IsPassed : List ℕ → Type 0
IsPassed line = class_of (words line) ≡ Passed

-- the two numbers of a problem line for n vertices, fewer than the limit; the other may be any
pub record AreSizes (limit n : ℕ) (sizes : Option (ℕ × ℕ)) : Type 0 where
  pub edge_count : ℕ
  pub numbers : sizes ≡ Some (n, edge_count)
  pub named : n < limit

-- two different ones of the vertices 1 to n
pub record AreEdgeEnds (n : ℕ) (ends : Option (ℕ × ℕ)) : Type 0 where
  pub first : ℕ
  pub second : ℕ
  pub numbers : ends ≡ Some (first, second)
  pub first_vertex : IsTrue (is_vertex n first)
  pub second_vertex : IsTrue (is_vertex n second)
  pub differ : first ≢ second

-- a problem line for n vertices, fewer than the limit
abbrev pub IsProblemLine : ℕ → ℕ → List ℕ → Type 0
IsProblemLine limit n line = AreSizes limit n (sizes_of (words line))

-- an edge line between two of the vertices 1 to n
abbrev pub IsEdgeLine : ℕ → List ℕ → Type 0
IsEdgeLine n line = AreEdgeEnds n (ends_of (words line))

-- a line that may stand behind the problem line
abbrev pub IsPassedOrEdge : ℕ → List ℕ → Type 0
IsPassedOrEdge n line = IsPassed line ⊎ IsEdgeLine n line

-- whether the ends are u and v, in either order
abbrev pub are_ends : ℕ → ℕ → Option (ℕ × ℕ) → Bool
are_ends u v None = false
are_ends u v (Some p) = (u == p.0 && v == p.1) || (u == p.1 && v == p.0)

-- whether the line is an edge line between u and v
abbrev pub is_edge_line : ℕ → ℕ → List ℕ → Bool
is_edge_line u v line = are_ends u v (ends_of (words line))

-- The bytes of a file spell a graph whose names are below the limit: one problem line; before it only lines that
-- are read past; behind it those and edge lines. The vertices are 1 to n, and two are adjacent exactly where a line
-- is an edge line of them.
pub record Spells (limit : ℕ) (bytes : List ℕ) (g : PlainGraph) : Type 0 where
  pub n : ℕ
  pub before : List (List ℕ)
  pub problem : List ℕ
  pub behind : List (List ℕ)
  pub whole : lines bytes ≡ before ++ problem ∷ behind
  pub passed : All IsPassed before
  pub problem_line : IsProblemLine limit n problem
  pub edge_lines : All (IsPassedOrEdge n) behind
  pub vertices : (v : ℕ) → set.contains g.vertices v ≡ is_vertex n v
  pub edges : (u v : ℕ) → adjacent g u v ≡ list_any (is_edge_line u v) behind
  pub graph : IsGraph g

-- the number of vertices of the first of the two numbers, if there are any
abbrev pub first_number : Option (ℕ × ℕ) → Option ℕ
first_number None = None
first_number (Some p) = Some p.0

-- the number of vertices of the problem line that stood before, once this line has stood there too
abbrev pub seen_after : Option ℕ → List ℕ → Option ℕ
seen_after (Some n) line = Some n
seen_after None line = first_number (sizes_of (words line))

-- the fault of a file at its end, behind `count` lines: no problem line stood there
abbrev pub end_fault : Option ℕ → ℕ → Option DimacsFault
end_fault None count = Some (record { kind = NoProblemLine; line = count + 1 })
end_fault (Some n) count = None

-- a kind as the fault of a line
abbrev pub fault_at : DimacsKind → ℕ → DimacsFault
fault_at kind line = record { kind = kind; line = line }

-- the first fault of lines behind `count` others, which count too
abbrev pub fault_behind : ℕ → Option ℕ → ℕ → List (List ℕ) → Option DimacsFault
fault_behind limit = first_fault_behind fault_at (fault_of_line limit) seen_after end_fault

-- the first fault of a file, where names from the limit on are too many: that of its first faulty line, with the
-- number of the line, counted from 1
abbrev pub first_fault : ℕ → List ℕ → Option DimacsFault
first_fault limit bytes = fault_behind limit None 0 (lines bytes)
