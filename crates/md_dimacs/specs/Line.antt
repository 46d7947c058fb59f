-- A line of a DIMACS edge file: its class, what it names, and its first fault.
-- Source: DIMACS, "Clique and coloring problems: graph format" (1993); the faults are this project's.
use Rattle.std.specs.Prelude.{ℕ, ◌==◌, ◌&&◌, ◌||◌, nat_eq, nat_lt, nat_le, Bool, not, List, [], ◌∷◌, length, slice_index, if◌then◌else◌, Option, None, Some, codes}
use Rattle.std.specs.Cmp.Lexicographic.{pointwise}
use Rattle.md_text.specs.Numbers.{number_of}
use Rattle.md_text.specs.Spelling.{words}
use Rattle.md_dimacs.specs.declared.fault.DimacsKind.{DimacsKind}
use Rattle.md_dimacs.specs.declared.fault.DimacsKind.TheVariants.{SecondProblemLine, EdgeBeforeProblem, BadNumber, VertexOutOfRange, Loop, UnknownLine, TooManyVertices, FieldCount}
use Rattle.md_dimacs.specs.declared.line.LineClass.{LineClass}
use Rattle.md_dimacs.specs.declared.line.LineClass.TheVariants.{Passed, Problem, Edge, Unknown}

-- the class of a line whose first field is this letter: `p`, `e`, and `n`, `d`, `v`, `x`, which are read past
abbrev pub class_of_letter : ℕ → LineClass
class_of_letter letter =
    if letter == 112 then Problem
    else (if letter == 101 then Edge
    else (if letter == 110 || (letter == 100 || (letter == 118 || letter == 120)) then Passed
    else Unknown))

-- the class of a line by its first field: what begins with `c` is a comment, all else has one letter
unfoldable pub class_of_field : List ℕ → LineClass
class_of_field field =
    if slice_index field 0 == 99 then Passed
    else (if length field == 1 then class_of_letter (slice_index field 0)
    else Unknown)

-- the class of a line by its fields; one without fields is skipped
abbrev pub class_of : List (List ℕ) → LineClass
class_of [] = Passed
class_of (first ∷ rest) = class_of_field first

-- the second field of a problem line: `edge` or `col`
unfoldable pub is_form : List ℕ → Bool
is_form field = pointwise nat_eq field (codes "edge") || pointwise nat_eq field (codes "col")

-- two numbers, if both are there
abbrev pub both : Option ℕ → Option ℕ → Option (ℕ × ℕ)
both None second = None
both (Some first) None = None
both (Some first) (Some second) = Some (first, second)

-- the two numbers of a problem line, by its fields behind the first: of vertices, and of edges
unfoldable pub sizes_in : List (List ℕ) → Option (ℕ × ℕ)
sizes_in (form ∷ vertices ∷ edges ∷ []) =
    if is_form form then both (number_of vertices) (number_of edges) else None
sizes_in _ = None

-- the two ends of an edge line, by its fields behind the first
unfoldable pub ends_in : List (List ℕ) → Option (ℕ × ℕ)
ends_in (first ∷ second ∷ []) = both (number_of first) (number_of second)
ends_in _ = None

-- the two numbers of a problem line; none of a line of another class
abbrev pub sizes_by : LineClass → List (List ℕ) → Option (ℕ × ℕ)
sizes_by Problem rest = sizes_in rest
sizes_by Passed rest = None
sizes_by Edge rest = None
sizes_by Unknown rest = None

-- the two ends of an edge line; none of a line of another class
abbrev pub ends_by : LineClass → List (List ℕ) → Option (ℕ × ℕ)
ends_by Edge rest = ends_in rest
ends_by Passed rest = None
ends_by Problem rest = None
ends_by Unknown rest = None

-- the numbers of vertices and edges that a line names, by its fields
abbrev pub sizes_of : List (List ℕ) → Option (ℕ × ℕ)
sizes_of [] = None
sizes_of (first ∷ rest) = sizes_by (class_of_field first) rest

-- the two ends that a line names, by its fields
abbrev pub ends_of : List (List ℕ) → Option (ℕ × ℕ)
ends_of [] = None
ends_of (first ∷ rest) = ends_by (class_of_field first) rest

-- the fault of the two numbers of a problem line: neither may lack, and all vertices are below the limit
abbrev pub sizes_fault : ℕ → Option ℕ → Option ℕ → Option DimacsKind
sizes_fault limit None edges = Some BadNumber
sizes_fault limit (Some n) None = Some BadNumber
sizes_fault limit (Some n) (Some m) = if nat_le limit n then Some TooManyVertices else None

-- the fault of a problem line, by its fields behind the first; `seen` is the number of vertices of the
-- problem line that stood before, if one did
unfoldable pub problem_fault : ℕ → Option ℕ → List (List ℕ) → Option DimacsKind
problem_fault limit (Some n) rest = Some SecondProblemLine
problem_fault limit None (form ∷ vertices ∷ edges ∷ []) =
    if is_form form then sizes_fault limit (number_of vertices) (number_of edges) else Some UnknownLine
problem_fault limit None _ = Some FieldCount

-- whether u is one of the vertices 1 to n
abbrev pub is_vertex : ℕ → ℕ → Bool
is_vertex n u = nat_lt 0 u && nat_le u n

-- the fault of the two ends of an edge line: neither may lack, both are vertices, and they differ
abbrev pub ends_fault : ℕ → Option ℕ → Option ℕ → Option DimacsKind
ends_fault n None second = Some BadNumber
ends_fault n (Some u) None = Some BadNumber
ends_fault n (Some u) (Some v) =
    if not (is_vertex n u && is_vertex n v) then Some VertexOutOfRange
    else (if u == v then Some Loop else None)

-- the fault of an edge line, by its fields behind the first
unfoldable pub edge_fault : Option ℕ → List (List ℕ) → Option DimacsKind
edge_fault None rest = Some EdgeBeforeProblem
edge_fault (Some n) (first ∷ second ∷ []) = ends_fault n (number_of first) (number_of second)
edge_fault (Some n) _ = Some FieldCount

-- the fault of a line of a class
abbrev pub fault_by : ℕ → LineClass → Option ℕ → List (List ℕ) → Option DimacsKind
fault_by limit Passed seen rest = None
fault_by limit Problem seen rest = problem_fault limit seen rest
fault_by limit Edge seen rest = edge_fault seen rest
fault_by limit Unknown seen rest = Some UnknownLine

-- the fault of a line with these fields
abbrev pub fault_of_words : ℕ → Option ℕ → List (List ℕ) → Option DimacsKind
fault_of_words limit seen [] = None
fault_of_words limit seen (first ∷ rest) = fault_by limit (class_of_field first) seen rest

-- the fault of a line, where `seen` is the number of vertices of the problem line that stood before
abbrev pub fault_of_line : ℕ → Option ℕ → List ℕ → Option DimacsKind
fault_of_line limit seen line = fault_of_words limit seen (words line)
