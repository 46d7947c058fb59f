-- The pairs of a sparse6 line: each is one bit, by which the vertex that it stands at is the one that was reached
-- or the next, and the other end of an edge, in as many bits as the greatest vertex has binary digits.
-- Source: B. McKay, "Description of graph6, sparse6 and digraph6 encodings".
use Rattle.std.specs.Prelude.{ℕ, zero, suc, ◌+◌, ◌-◌, ◌*◌, ◌/◌, ◌%◌, ◌^◌, ◌==◌, ◌&&◌, ◌||◌, max, nat_lt, nat_le, Bool, false, List, length, if◌then◌else◌}
use Rattle.md_graph.specs.NameSet.{range}
use Rattle.md_graph.specs.PlainGraph.{PlainGraph, pairs_where}
use Rattle.md_graph6.specs.Bits.{bit}

-- how many binary digits a number has that is below 2 ^ most
unfoldable pub digit_count : ℕ → ℕ → ℕ
digit_count zero m = 0
digit_count (suc k) m = if nat_le (2 ^ k) m then suc k else digit_count k m

-- how many bits spell an end of an edge of n vertices: the binary digits of n - 1, which is below 2 ^ 32
abbrev pub width : ℕ → ℕ
width n = digit_count 32 (n - 1)

-- the number that `count` bits of a body from `place` on spell, the high bit first
unfoldable pub spelt_number : List ℕ → ℕ → ℕ → ℕ
spelt_number body place zero = 0
spelt_number body place (suc count) = 2 * spelt_number body place count + bit body (place + count)

-- pair p as one number: its bit, and then k bits of an end
abbrev pub pair_number_at : List ℕ → ℕ → ℕ → ℕ
pair_number_at body k p = spelt_number body (p * (k + 1)) (k + 1)

-- the bit of pair p
abbrev pub step_of : List ℕ → ℕ → ℕ → ℕ
step_of body k p = pair_number_at body k p / 2 ^ k

-- the end that pair p spells
abbrev pub other_end : List ℕ → ℕ → ℕ → ℕ
other_end body k p = pair_number_at body k p % 2 ^ k

-- the vertex that the first p pairs reach: a bit goes on by one, and an end above the vertex becomes the vertex
unfoldable pub reached : List ℕ → ℕ → ℕ → ℕ
reached body k zero = 0
reached body k (suc p) = max (reached body k p + step_of body k p) (other_end body k p)

-- the vertex that pair p stands at
abbrev pub vertex_at : List ℕ → ℕ → ℕ → ℕ
vertex_at body k p = reached body k p + step_of body k p

-- whether all bits of pair p stand in the body
abbrev pub is_whole : List ℕ → ℕ → ℕ → Bool
is_whole body k p = nat_le ((p + 1) * (k + 1)) (6 * length body)

-- whether one of the first `count` pairs passes a test
unfoldable pub some_pair : (ℕ → Bool) → ℕ → Bool
some_pair test zero = false
some_pair test (suc p) = test p || some_pair test p

-- whether pair p is there and has the ends u, the one that it spells, and v
abbrev pub gives : List ℕ → ℕ → ℕ → ℕ → ℕ → Bool
gives body k u v p = is_whole body k p && ((other_end body k p == u) && (vertex_at body k p == v))

-- whether pair p is there, has equal ends, and they are below n
abbrev pub gives_loop : List ℕ → ℕ → ℕ → ℕ → Bool
gives_loop body k n p =
    is_whole body k p && ((other_end body k p == vertex_at body k p) && nat_lt (vertex_at body k p) n)

-- whether a pair of a body of n vertices has the ends u and v; there are fewer pairs than bits
abbrev pub is_pair_edge : List ℕ → ℕ → ℕ → ℕ → Bool
is_pair_edge body n u v = some_pair (gives body (width n) u v) (6 * length body)

-- whether an edge with both ends below n has equal ends; without two vertices nothing is an edge
abbrev pub has_loop : List ℕ → ℕ → Bool
has_loop body n = nat_lt 1 n && some_pair (gives_loop body (width n) n) (6 * length body)

-- The graph of n vertices that the pairs of a body spell: u < v < n are adjacent exactly where a pair has these ends.
unfoldable pub graph_of_pairs : List ℕ → ℕ → PlainGraph
graph_of_pairs body n = record { vertices = range 0 n; edges = pairs_where (is_pair_edge body n) n }
