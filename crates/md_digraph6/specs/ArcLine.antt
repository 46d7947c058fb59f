-- A digraph6 line: what it spells, and its first fault.
-- Source: B. McKay, "Description of graph6, sparse6 and digraph6 encodings"; the faults are this project's.
use Rattle.std.specs.Prelude.{◌≡◌, ℕ, zero, suc, ◌+◌, ◌*◌, ◌<◌, ◌≤◌, ◌==◌, ◌||◌, nat_lt, Bool, false, not, List, [], ◌∷◌, ◌++◌, length, drop, if◌then◌else◌, Option, None, Some}
use Rattle.std.specs.FinSet as set
use Rattle.std.specs.List.{AllPass, list_all}
use Rattle.md_graph.specs.NameSet.{range}
use Rattle.md_digraph.specs.declared.TheConstants.{DIRECTED_NAMES}
use Rattle.md_digraph.specs.PlainDigraph.{PlainDigraph, IsDigraph, has_arc_to}
use Rattle.md_digraph.specs.ArcRows.{arcs_where}
use Rattle.md_graph6.specs.declared.fault.G6Kind.{G6Kind}
use Rattle.md_graph6.specs.declared.fault.G6Kind.TheVariants.{BadByte, BadSize, TooManyVertices, Truncated, TrailingBytes, BadPadding, OtherFormat, Loop}
use Rattle.md_graph6.specs.Bits.{bit, group_count}
use Rattle.md_graph6.specs.Size.{size_text, size_of, is_too_long}
use Rattle.md_graph6.specs.Line.{is_group, is_set_behind}

-- whether the bit of the pair (i, j) of n vertices is 1, row by row
abbrev pub is_arc : List ℕ → ℕ → ℕ → ℕ → Bool
is_arc body n i j = bit body (i * n + j) == 1

-- The directed graph that a body spells: its vertices are the numbers below n, and an arc runs from one to another
-- exactly where the bit of their pair is 1.
pub record IsArcBodyOf (body : List ℕ) (n : ℕ) (g : PlainDigraph) : Type 0 where
  pub vertices : (v : ℕ) → set.contains g.vertices v ≡ nat_lt v n
  pub digraph : IsDigraph g
  pub arcs : (i j : ℕ) → i < n → j < n → has_arc_to g i j ≡ is_arc body n i j

-- The line is `&`, the size n in its shortest spelling, and the n times n bits of the directed graph, filled up with
-- zeros to whole bytes.
pub record SpellsArcLine (line : List ℕ) (g : PlainDigraph) : Type 0 where
  pub n : ℕ
  pub body : List ℕ
  pub few : n ≤ DIRECTED_NAMES
  pub text : line ≡ 38 ∷ (size_text n ++ body)
  pub long : length body ≡ group_count (n * n)
  pub groups : AllPass is_group body
  pub bits : IsArcBodyOf body n g
  pub padding : (k : ℕ) → n * n ≤ k → k < 6 * group_count (n * n) → bit body k ≡ 0

-- whether the bit of one of the first `count` of n vertices with itself is 1
unfoldable pub some_loop : List ℕ → ℕ → ℕ → Bool
some_loop body n zero = false
some_loop body n (suc i) = is_arc body n i i || some_loop body n i

-- the first fault of the bits of n vertices
unfoldable pub bits_fault : List ℕ → ℕ → Option G6Kind
bits_fault body n =
    if some_loop body n n then Some Loop else
    if is_set_behind body (n * n) then Some BadPadding else None

-- the first fault of group bytes whose first `taken` bytes spell the size n
unfoldable pub arc_body_fault : List ℕ → ℕ → ℕ → Option G6Kind
arc_body_fault rest taken n =
    if is_too_long taken n then Some BadSize else
    if nat_lt DIRECTED_NAMES n then Some TooManyVertices else
    if nat_lt (length rest) (taken + group_count (n * n)) then Some Truncated else
    if nat_lt (taken + group_count (n * n)) (length rest) then Some TrailingBytes else
    bits_fault (drop taken rest) n

-- the same, of a size as `size_of` gives it
unfoldable pub arc_size_fault : List ℕ → Option (ℕ × ℕ) → Option G6Kind
arc_size_fault rest None = Some Truncated
arc_size_fault rest (Some size) = arc_body_fault rest size.0 size.1

-- the first fault of what stands behind the `&` of a line
unfoldable pub arc_rest_fault : List ℕ → Option G6Kind
arc_rest_fault rest =
    if not (list_all is_group rest) then Some BadByte else
    if length rest == 0 then Some Truncated else
    arc_size_fault rest (size_of rest)

-- the first fault of a line; an empty line has none
unfoldable pub arc_line_fault : List ℕ → Option G6Kind
arc_line_fault [] = None
arc_line_fault (byte ∷ rest) = if byte == 38 then arc_rest_fault rest else Some OtherFormat

-- the directed graph of n vertices that a body spells
unfoldable pub digraph_of_body : List ℕ → ℕ → PlainDigraph
digraph_of_body body n = record { vertices = range 0 n; arcs = arcs_where (is_arc body n) n n }

-- the same, of a size as `size_of` gives it; the one without vertices where there is none
unfoldable pub digraph_of_sized : List ℕ → Option (ℕ × ℕ) → PlainDigraph
digraph_of_sized rest None = digraph_of_body rest 0
digraph_of_sized rest (Some size) = digraph_of_body (drop size.0 rest) size.1

-- the directed graph that a line without fault spells
abbrev pub digraph_of_line : List ℕ → PlainDigraph
digraph_of_line line = digraph_of_sized (drop 1 line) (size_of (drop 1 line))
