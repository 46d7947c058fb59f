-- Rows that cut a class of names. Only private contracts cite it.
-- Source: Habib and Paul, A survey of the algorithmic aspects of modular decomposition (partition refinement).
use Rattle.std.specs.Prelude.{◌≡◌, ◌≢◌, ℕ}
use Rattle.std.specs.FinSet.{contains}
use Rattle.md_graph.specs.Sets.{NameSet, Has, Lacks}

-- the row has some names of c and lacks others, and for some name of s outside c, of two names with which that name has the same colour
-- the row has both or none
pub record IsCutByRow {C : Type 0} (e : ℕ → ℕ → C) (s c row : NameSet) : Type 0 where
  pub by : ℕ
  pub inside : Has s by
  pub outside : Lacks c by
  pub alike : (x y : ℕ) → e by x ≡ e by y → contains row x ≡ contains row y
  pub sees : (a : ℕ) × Has c a × Has row a
  pub misses : (a : ℕ) × Has c a × Lacks row a

-- some name of others has other arcs with u than with v, the row has one of the two, and of two names with which that name has the same
-- colour it has both or none
pub record IsToldByRow {C : Type 0} (e : ℕ → ℕ → C) (others : NameSet) (u v : ℕ) (row : NameSet) : Type 0 where
  pub by : ℕ
  pub inside : Has others by
  pub alike : (x y : ℕ) → e by x ≡ e by y → contains row x ≡ contains row y
  pub differ : contains row u ≢ contains row v
