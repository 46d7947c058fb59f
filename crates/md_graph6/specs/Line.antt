-- A graph6 line: what it spells, and its first fault.
-- Source: B. McKay, "Description of graph6, sparse6 and digraph6 encodings"; the faults are this project's.
use Rattle.std.specs.Prelude.{◌≡◌, ℕ, zero, suc, ◌+◌, ◌-◌, ◌*◌, ◌/◌, ◌<◌, ◌≤◌, ◌==◌, ◌&&◌, ◌||◌, nat_lt, nat_le, Bool, false, not, List, ◌++◌, length, get_or, drop, if◌then◌else◌, Option, None, Some}
use Rattle.std.specs.List.{AllPass, list_all}
use Rattle.md_graph.specs.NameSet.{range}
use Rattle.md_graph.specs.PlainGraph.{PlainGraph, pairs_where}
use Rattle.md_graph6.specs.declared.fault.G6Kind.{G6Kind}
use Rattle.md_graph6.specs.declared.fault.G6Kind.TheVariants.{BadByte, BadSize, TooManyVertices, Truncated, TrailingBytes, BadPadding, OtherFormat}
use Rattle.md_graph6.specs.Bits.{bit, pair_number, group_count, body_length, IsBodyOf}
use Rattle.md_graph6.specs.Size.{size_text, size_of, is_too_long}

-- the number of pairs of n vertices
abbrev pub pair_count : ℕ → ℕ
pair_count n = n * (n - 1) / 2

-- the byte is 63 with six bits added
abbrev pub is_group : ℕ → Bool
is_group byte = nat_le 63 byte && nat_le byte 126

-- The line is the size n, at most the limit, in its shortest spelling, and the bits of the graph, filled up with zeros
-- to whole bytes.
pub record SpellsGraph6 (limit : ℕ) (line : List ℕ) (g : PlainGraph) : Type 0 where
  pub n : ℕ
  pub body : List ℕ
  pub few : n ≤ limit
  pub text : line ≡ size_text n ++ body
  pub long : length body ≡ body_length n
  pub groups : AllPass is_group body
  pub bits : IsBodyOf body n g
  pub padding : (k : ℕ) → pair_count n ≤ k → k < 6 * body_length n → bit body k ≡ 0

-- the first byte of an incremental sparse6 or a digraph6 line: `;` or `&`
abbrev pub begins_other : ℕ → Bool
begins_other byte = byte == 59 || byte == 38

-- whether one of `count` bits from `first` on is 1
unfoldable pub some_bit : List ℕ → ℕ → ℕ → Bool
some_bit body first zero = false
some_bit body first (suc count) = (bit body first == 1) || some_bit body (first + 1) count

-- whether a bit behind the first `count` is 1, in the bytes that hold these
abbrev pub is_set_behind : List ℕ → ℕ → Bool
is_set_behind body count = some_bit body count (6 * group_count count - count)

-- whether a bit behind those of the pairs is 1
abbrev pub is_padding_set : List ℕ → ℕ → Bool
is_padding_set body n = is_set_behind body (pair_count n)

-- the first fault of a line of group bytes whose first `taken` bytes spell the size n, of which the limit is the greatest
unfoldable pub body_fault : ℕ → List ℕ → ℕ → ℕ → Option G6Kind
body_fault limit line taken n =
    if is_too_long taken n then Some BadSize else
    if nat_lt limit n then Some TooManyVertices else
    if nat_lt (length line) (taken + body_length n) then Some Truncated else
    if nat_lt (taken + body_length n) (length line) then Some TrailingBytes else
    if is_padding_set (drop taken line) n then Some BadPadding else None

-- the first fault of a line of group bytes, whose size is given as `size_of` gives it
unfoldable pub size_fault : ℕ → List ℕ → Option (ℕ × ℕ) → Option G6Kind
size_fault limit line None = Some Truncated
size_fault limit line (Some size) = body_fault limit line size.0 size.1

-- the first fault of a graph6 line that isn't empty, none if it has no fault
unfoldable pub graph6_fault : ℕ → List ℕ → Option G6Kind
graph6_fault limit line =
    if begins_other (get_or line 0 0) then Some OtherFormat else
    if not (list_all is_group line) then Some BadByte else
    size_fault limit line (size_of line)

-- whether the bit of the pair i < j is 1
abbrev pub is_edge : List ℕ → ℕ → ℕ → Bool
is_edge body i j = bit body (pair_number i j) == 1

-- the graph of n vertices that a body spells
unfoldable pub graph_of_body : List ℕ → ℕ → PlainGraph
graph_of_body body n = record { vertices = range 0 n; edges = pairs_where (is_edge body) n }

-- the same, of a size as `size_of` gives it; the graph without vertices where there is none
unfoldable pub graph_of_sized : List ℕ → Option (ℕ × ℕ) → PlainGraph
graph_of_sized line None = graph_of_body line 0
graph_of_sized line (Some size) = graph_of_body (drop size.0 line) size.1

-- the graph that a graph6 line without fault spells
abbrev pub graph_of_graph6 : List ℕ → PlainGraph
graph_of_graph6 line = graph_of_sized line (size_of line)
