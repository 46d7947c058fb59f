-- The arcs between the least names of sets. Only private contracts cite it.
-- Source: a quotient with one name of each class.
use Rattle.std.specs.Prelude.{◌≡◌, ℕ, Bool, true}
use Rattle.md_graph.specs.Sets.{NameSet, Has}

-- a and b are two heads, and an arc runs from a to b
pub record IsHeadArc (arc : ℕ → ℕ → Bool) (heads : NameSet) (a b : ℕ) : Type 0 where
  pub first : Has heads a
  pub second : Has heads b
  pub runs : arc a b ≡ true
