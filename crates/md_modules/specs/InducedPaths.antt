-- Induced paths on four names.
-- Source: Corneil, Lerchs and Stewart Burlingham, Complement reducible graphs.
use Rattle.std.specs.Prelude.{◌≡◌, ◌≢◌, ◌<◌, ◌⊎◌, ℕ, Bool, true, false}
use Rattle.md_graph.specs.Sets.{NameSet, Has}

-- a, b, c, d are four different names of s, the edges among them are exactly ab, bc and cd, and the
-- ends ascend
pub record IsInducedPath (e : ℕ → ℕ → Bool) (s : NameSet) (a b c d : ℕ) : Type 0 where
  pub inside : Has s a × Has s b × Has s c × Has s d
  pub different : (a ≢ b) × (a ≢ c) × (b ≢ c) × (b ≢ d) × (c ≢ d)
  pub edges : (e a b ≡ true) × (e b c ≡ true) × (e c d ≡ true)
  pub apart : (e a c ≡ false) × (e a d ≡ false) × (e b d ≡ false)
  pub ascending : a < d

-- some four names of s are an induced path
abbrev pub HasInducedPath : (ℕ → ℕ → Bool) → NameSet → Type 0
HasInducedPath e s = (a : ℕ) × (b : ℕ) × (c : ℕ) × (d : ℕ) × IsInducedPath e s a b c d

-- among a, b, c and d, in this order, are exactly the edges of a path: ab, bc and cd
pub record HasPathEdges (e : ℕ → ℕ → Bool) (a b c d : ℕ) : Type 0 where
  pub edges : (e a b ≡ true) × (e b c ≡ true) × (e c d ≡ true)
  pub apart : (e a c ≡ false) × (e a d ≡ false) × (e b d ≡ false)

-- x is a, b, c or d
abbrev pub IsOneOf : ℕ → ℕ → ℕ → ℕ → ℕ → Type 0
IsOneOf x a b c d = (x ≡ a) ⊎ (x ≡ b) ⊎ (x ≡ c) ⊎ (x ≡ d)

-- a, b, c, d are an induced path of s, and x is one of them
pub record IsInducedPathWith (e : ℕ → ℕ → Bool) (s : NameSet) (x a b c d : ℕ) : Type 0 where
  pub path : IsInducedPath e s a b c d
  pub holds : IsOneOf x a b c d

-- a, b, c, d are an induced path of s, and both x and y are among them
pub record IsInducedPathWithBoth (e : ℕ → ℕ → Bool) (s : NameSet) (x y a b c d : ℕ) : Type 0 where
  pub path : IsInducedPath e s a b c d
  pub first : IsOneOf x a b c d
  pub second : IsOneOf y a b c d
