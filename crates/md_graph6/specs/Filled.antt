-- A graph on the way from its vertices alone to what a body spells.
use Rattle.std.specs.Prelude.{◌≡◌, ℕ, ◌+◌, ◌/◌, ◌<◌, ◌==◌, ◌&&◌, ◌||◌, nat_lt, Bool, false, List, get_or, if◌then◌else◌}
use Rattle.std.specs.Int.{bit_at}
use Rattle.std.specs.FinSet as set
use Rattle.md_graph.specs.PlainGraph.{PlainGraph, IsGraph, adjacent}
use Rattle.md_graph6.specs.Bits.{bit, pair_number}

-- a graph without edges whose vertices are the numbers below n
pub record IsEdgeless (n : ℕ) (g : PlainGraph) : Type 0 where
  pub vertices : (v : ℕ) → set.contains g.vertices v ≡ nat_lt v n
  pub graph : IsGraph g
  pub no_edge : (a b : ℕ) → adjacent g a b ≡ false

-- Word r of a block holds the bits of column high + r from row `low` on: bit k is that of the pair of low + k and high + r. It is
-- 0 where low + k isn't the smaller, or high + r isn't below n.
abbrev pub IsBlock : List ℕ → ℕ → ℕ → ℕ → List ℕ → Type 0
IsBlock body n low high block =
    (r k : ℕ) → r < 64 → k < 64 → bit_at (get_or block r 0) k ≡ (if nat_lt (high + r) n && nat_lt (low + k) (high + r) then bit body (pair_number (low + k) (high + r)) else 0)

-- whether the edge between a and b, the larger, lies in the blocks before block l of the columns from 64 h on
abbrev pub is_before : ℕ → ℕ → ℕ → ℕ → Bool
is_before h l a b = nat_lt (b / 64) h || ((b / 64 == h) && nat_lt (a / 64) l)

-- a graph on the numbers below n that has the edges of the blocks before block l of the columns from 64 h on
pub record IsFilled (body : List ℕ) (n h l : ℕ) (g : PlainGraph) : Type 0 where
  pub vertices : (v : ℕ) → set.contains g.vertices v ≡ nat_lt v n
  pub graph : IsGraph g
  pub pairs : (a b : ℕ) → a < b → adjacent g a b ≡ ((nat_lt b n && is_before h l a b) && (bit body (pair_number a b) == 1))
