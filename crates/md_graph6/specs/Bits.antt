-- What the bytes behind the size of a graph6 line say: one bit a pair of vertices. Source: the public
-- description of the graph6 format, which goes through the upper triangle column by column.
use Rattle.std.specs.Prelude.{◌≡◌, ℕ, ◌+◌, ◌-◌, ◌*◌, ◌/◌, ◌%◌, ◌<◌, ◌==◌, nat_lt, List, get_or}
use Rattle.std.specs.Int.{bit_at}
use Rattle.std.specs.FinSet as set
use Rattle.md_graph.specs.PlainGraph.{PlainGraph, IsGraph, adjacent}

-- bit k of a body, the high bit of each group of six first; behind the body all bits are 0
abbrev pub bit : List ℕ → ℕ → ℕ
bit body k = bit_at (get_or body (k / 6) 63 - 63) (5 - k % 6)

-- the place of the pair i < j, column by column
abbrev pub pair_number : ℕ → ℕ → ℕ
pair_number i j = j * (j - 1) / 2 + i

-- how many bytes hold so many bits
abbrev pub group_count : ℕ → ℕ
group_count bits = (bits + 5) / 6

-- how many bytes hold one bit for each pair of n vertices
abbrev pub body_length : ℕ → ℕ
body_length n = group_count (n * (n - 1) / 2)

-- The graph that a body spells: its vertices are the numbers below n, and two of them are adjacent exactly
-- where the bit of their pair is 1.
pub record IsBodyOf (body : List ℕ) (n : ℕ) (g : PlainGraph) : Type 0 where
  pub vertices : (v : ℕ) → set.contains g.vertices v ≡ nat_lt v n
  pub graph : IsGraph g
  pub edges : (i j : ℕ) → i < j → j < n → adjacent g i j ≡ (bit body (pair_number i j) == 1)
