-- Blocks of 64 words of 64 bits.
-- Source: the adjacency matrix of a graph in blocks, and its transposition, as in any textbook.
use Rattle.std.specs.Prelude.{◌≡◌, ℕ, ◌+◌, ◌-◌, ◌*◌, ◌/◌, ◌%◌, ◌<◌, List, get_or, Bool, ◌&&◌, ◌||◌, ◌==◌}
use Rattle.std.specs.Int.{bit_at}
use Rattle.md_graph.specs.PlainGraph.{PlainGraph, IsGraph, adjacent}

-- the bits of `firsts` whose number has no bit of weight `width` are 1, the others 0
abbrev pub IsFirstHalf : ℕ → ℕ → Type 0
IsFirstHalf width firsts = (k : ℕ) → k < 64 → bit_at firsts k ≡ 1 - k / width % 2

-- A round of a transposition: the highest bit of the word's number becomes the bit of weight
-- `width` of the bit's number, which becomes the lowest bit of the word's number.
abbrev pub IsRound : ℕ → List ℕ → List ℕ → Type 0
IsRound width old new =
    (r k : ℕ) → r < 64 → k < 64 →
    bit_at (get_or new r 0) k ≡ bit_at (get_or old (r / 2 + 32 * (k / width % 2)) 0) (k - width * (k / width % 2) + width * (r % 2))

-- whether bit v - low of word u - high of the block is 1, for u and v in the 64 names from `high`
-- and from `low` on
abbrev pub in_block : List ℕ → ℕ → ℕ → ℕ → ℕ → Bool
in_block block high low u v = (u / 64 == high / 64) && ((v / 64 == low / 64) && (bit_at (get_or block (u % 64) 0) (v % 64) == 1))

-- g with an edge between high + r and low + k for each bit k of word r that is 1: the same
-- vertices, and these edges joined to those of g
pub record IsWithBlock (g : PlainGraph) (high low : ℕ) (block : List ℕ) (new : PlainGraph) : Type 0 where
  pub vertices : new.vertices ≡ g.vertices
  pub graph : IsGraph new
  pub edges : (u v : ℕ) →
      adjacent new u v ≡ (adjacent g u v || (in_block block high low u v || in_block block high low v u))
