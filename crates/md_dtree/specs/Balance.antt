-- The balance of the names of a directed graph: how many arcs run from a name, against how many run
-- to it.
-- Source: Landau, On dominance relations and the structure of animal societies (1953), of the
-- scores of tournaments.
use Rattle.std.specs.Prelude.{◌≢◌, ◌↔◌, ℕ, Bool, List, Contains, AllPairs}
use Rattle.std.specs.FinSet.{len, retain}
use Rattle.md_graph.specs.Sets.{NameSet, Has}

-- how many arcs run from v to names of s
abbrev pub arcs_from : (ℕ → ℕ → Bool) → NameSet → ℕ → ℕ
arcs_from arc s v = len (retain s (arc v))

-- how many arcs run from names of s to v
abbrev pub arcs_to : (ℕ → ℕ → Bool) → NameSet → ℕ → ℕ
arcs_to arc s v = len (retain s (λ u. arc u v))

-- the list has exactly the members of s, each once
pub record ListsMembers (s : NameSet) (xs : List ℕ) : Type 0 where
  pub once : AllPairs (λ x y. x ≢ y) xs
  pub exactly : (x : ℕ) → Contains xs x ↔ Has s x
