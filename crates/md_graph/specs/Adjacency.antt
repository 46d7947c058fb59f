-- A graph as a set of names with one test of adjacency. The graph on a part of the names has the
-- same test.
-- Source: any textbook of graph theory.
use Rattle.std.specs.Prelude.{◌≡◌, ℕ, Bool, false, not, ◌&&◌, nat_eq}

-- a test of adjacency of a graph without loops, whose edges have no direction
pub record IsAdjacency (e : ℕ → ℕ → Bool) : Type 0 where
  pub symmetric : (a b : ℕ) → e a b ≡ e b a
  pub irreflexive : (a : ℕ) → e a a ≡ false

-- the adjacency of the complement: two different names that e has apart
abbrev pub co : (ℕ → ℕ → Bool) → ℕ → ℕ → Bool
co e a b = not (nat_eq a b) && not (e a b)
