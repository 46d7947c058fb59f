-- Words that hold bits of a body.
use Rattle.std.specs.Prelude.{◌≡◌, ℕ, ◌+◌, ◌*◌, ◌^◌, ◌<◌, ◌≤◌, List, length, get_or}
use Rattle.std.specs.Int.{bit_at}
use Rattle.md_graph6.specs.Bits.{bit}

-- each byte of a body stands for a group of six bits: it is from 63 to 126
pub record AreGroups (body : List ℕ) : Type 0 where
  pub low : (k : ℕ) → k < length body → 63 ≤ get_or body k 63
  pub high : (k : ℕ) → k < length body → get_or body k 63 < 127

-- a word holds the n bits of a body from `place` on, the first in its lowest place
pub record IsWindow (body : List ℕ) (place n word : ℕ) : Type 0 where
  pub below : word < 2 ^ n
  pub bits : (k : ℕ) → k < n → bit_at word k ≡ bit body (place + k)

-- The n bytes from `at` on are set to the lowest 6 n bits of a word, the first bit being its lowest; all
-- other bits stay.
pub record IsPut (old new : List ℕ) (at n word : ℕ) : Type 0 where
  pub length : length new ≡ length old
  pub groups : AreGroups new
  pub inside : (i : ℕ) → i < 6 * n → bit new (6 * at + i) ≡ bit_at word i
  pub before : (k : ℕ) → k < 6 * at → bit new k ≡ bit old k
  pub behind : (k : ℕ) → 6 * at + 6 * n ≤ k → bit new k ≡ bit old k
