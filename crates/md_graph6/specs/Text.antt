-- The graph6 text of a graph, byte by byte.
-- Source: B. McKay, "Description of graph6, sparse6 and digraph6 encodings".
use Rattle.std.specs.Prelude.{ℕ, zero, suc, ◌+◌, ◌*◌, List, [], ◌∷◌, ◌++◌, length, get_or}
use Rattle.md_graph.specs.NameSet.{ascending}
use Rattle.md_graph.specs.PlainGraph.{PlainGraph}
use Rattle.md_graph6.specs.Bits.{body_length}
use Rattle.md_graph6.specs.Size.{size_text}
use Rattle.md_graph6.specs.Written.{bit_if, are_adjacent}

-- the first `count` bits of column j: 1 where the i-th and the j-th vertex are adjacent
unfoldable pub column_bits : PlainGraph → ℕ → ℕ → List ℕ
column_bits g j zero = []
column_bits g j (suc i) = column_bits g j i ++ bit_if (are_adjacent g i j) ∷ []

-- the bits of the pairs of the first n vertices, column by column
unfoldable pub pair_bits : PlainGraph → ℕ → List ℕ
pair_bits g zero = []
pair_bits g (suc j) = pair_bits g j ++ column_bits g j j

-- the number of the six bits from a place on, the high bit first; behind the list they are 0
abbrev pub six_bits : List ℕ → ℕ → ℕ
six_bits bits place =
    32 * get_or bits place 0 + 16 * get_or bits (place + 1) 0 + 8 * get_or bits (place + 2) 0
    + 4 * get_or bits (place + 3) 0 + 2 * get_or bits (place + 4) 0 + get_or bits (place + 5) 0

-- the first `count` bytes of the bits, six a byte, 63 added to each
unfoldable pub bytes_of_bits : List ℕ → ℕ → List ℕ
bytes_of_bits bits zero = []
bytes_of_bits bits (suc k) = bytes_of_bits bits k ++ (63 + six_bits bits (6 * k)) ∷ []

-- the line of a graph of n vertices: the size in its shortest spelling, and the bits, filled up with zeros
abbrev pub graph_line_text : PlainGraph → ℕ → List ℕ
graph_line_text g n = size_text n ++ bytes_of_bits (pair_bits g n) (body_length n)

-- the line of a graph, and a line feed
unfoldable pub graph6_text : PlainGraph → List ℕ
graph6_text g = graph_line_text g (length (ascending g.vertices)) ++ 10 ∷ []
