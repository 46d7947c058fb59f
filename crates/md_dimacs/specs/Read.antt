-- What a reader of a DIMACS edge file has read: the lines before and behind the problem line.
use Rattle.std.specs.Prelude.{◌≡◌, ℕ, ◌+◌, List, [], ◌∷◌, ◌++◌, length, Option, None, Some}
use Rattle.std.specs.List.{All}
use Rattle.std.specs.FinSet as set
use Rattle.md_graph.specs.NameSet.{range}
use Rattle.md_graph.specs.PlainGraph.{PlainGraph, with_edge}
use Rattle.md_text.specs.Spelling.{words}
use Rattle.md_dimacs.specs.Line.{ends_of, is_vertex}
use Rattle.md_dimacs.specs.File.{IsPassed, IsProblemLine}

-- behind `count` of all lines, none of which is a problem line or an edge line, the rest is to be read
pub record IsBeforeProblem (all : List (List ℕ)) (count : ℕ) (rest : List (List ℕ)) : Type 0 where
  pub before : List (List ℕ)
  pub cut : all ≡ before ++ rest
  pub counted : length before ≡ count
  pub passed : All IsPassed before

-- behind `count` of all lines, the last of which is the problem line, the rest is to be read
pub record IsBehindProblem (limit : ℕ) (all : List (List ℕ)) (n count : ℕ) (rest : List (List ℕ)) : Type 0 where
  pub before : List (List ℕ)
  pub problem : List ℕ
  pub cut : all ≡ before ++ problem ∷ rest
  pub counted : length before + 1 ≡ count
  pub passed : All IsPassed before
  pub problem_line : IsProblemLine limit n problem

-- the vertices of the graph are 1 to n
abbrev pub HasVertices : ℕ → PlainGraph → Type 0
HasVertices n g = (v : ℕ) → set.contains g.vertices v ≡ is_vertex n v

-- the graph on the vertices 1 to n without edges
abbrev pub edgeless : ℕ → PlainGraph
edgeless n = record { vertices = range 1 n; edges = set.empty }

-- the graph with one more edge, if its ends are there
abbrev pub with_ends : PlainGraph → Option (ℕ × ℕ) → PlainGraph
with_ends g None = g
with_ends g (Some p) = with_edge g p.0 p.1

-- the graph with the edge that a line names, if it names one
abbrev pub with_line : PlainGraph → List ℕ → PlainGraph
with_line g line = with_ends g (ends_of (words line))

-- the graph with the edges that lines name
unfoldable pub with_lines : PlainGraph → List (List ℕ) → PlainGraph
with_lines g [] = g
with_lines g (line ∷ more) = with_lines (with_line g line) more
