-- The edges and the order of four names.
-- Source: any textbook of graph theory.
use Rattle.std.specs.Prelude.{◌≡◌, ◌<◌, ℕ, Bool, true, false}

-- among a, b, c and d, in this order, are exactly the edges of a cycle: ab, bc, cd and da
pub record HasCycleEdges (e : ℕ → ℕ → Bool) (a b c d : ℕ) : Type 0 where
  pub edges : (e a b ≡ true) × (e b c ≡ true) × (e c d ≡ true) × (e d a ≡ true)
  pub apart : (e a c ≡ false) × (e b d ≡ false)

-- among them are exactly the edges ab and cd
pub record HasTwoEdges (e : ℕ → ℕ → Bool) (a b c d : ℕ) : Type 0 where
  pub edges : (e a b ≡ true) × (e c d ≡ true)
  pub apart : (e a c ≡ false) × (e a d ≡ false) × (e b c ≡ false) × (e b d ≡ false)

-- a is the least, and b < d
abbrev pub IsCycleOrder : ℕ → ℕ → ℕ → ℕ → Type 0
IsCycleOrder a b c d = (a < b) × (a < c) × (a < d) × (b < d)

-- a < b, c < d, and a < c
abbrev pub IsPairOrder : ℕ → ℕ → ℕ → ℕ → Type 0
IsPairOrder a b c d = (a < b) × (c < d) × (a < c)
