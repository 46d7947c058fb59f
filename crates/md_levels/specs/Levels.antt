-- The levels of a forcing class: which arcs are how many direct forcings away from its first arc.
-- Source: breadth-first search, as in any textbook on algorithms; the forcing of arcs is Golumbic's, Algorithmic Graph
-- Theory and Perfect Graphs, chapter 5.
use Rattle.std.specs.Prelude.{◌≡◌, ◌≢◌, ◌≤◌, ◌↔◌, ℕ, suc, Bool, List, [], ◌∷◌, Some, slice_get}
use Rattle.md_forcing.specs.declared.arc.Arc.{Arc}
use Rattle.md_forcing.specs.Lists.{Holds}
use Rattle.md_forcing.specs.Forcing.{IsArc, ForcesDirectly}

-- the list with this number has the arc
abbrev pub InLevel : List (List Arc) → ℕ → Arc → Type 0
InLevel levels k a = (list : List Arc) × (slice_get levels k ≡ Some list) × Holds list a

-- a list with this number or a smaller one has the arc
abbrev pub InLevelTo : List (List Arc) → ℕ → Arc → Type 0
InLevelTo levels k a = (j : ℕ) × (j ≤ k) × InLevel levels j a

-- an arc of the list with this number forces b directly
abbrev pub IsForcedFrom : (ℕ → ℕ → Bool) → List (List Arc) → ℕ → Arc → Type 0
IsForcedFrom e levels k b = (a : Arc) × InLevel levels k a × ForcesDirectly e a b

-- Nonempty lists of arcs: the first is `first` alone, each next has exactly the arcs in no earlier list that an arc of the
-- list before forces directly, until there are none.
pub record AreLevels (e : ℕ → ℕ → Bool) (first : Arc) (levels : List (List Arc)) : Type 0 where
  pub begins : slice_get levels 0 ≡ Some (first ∷ [])
  pub next : (k : ℕ) (b : Arc) → InLevel levels (suc k) b ↔ (IsArc e b × IsForcedFrom e levels k b × (InLevelTo levels k b → ⊥))
  pub nonempty : (k : ℕ) (list : List Arc) → slice_get levels k ≡ Some list → list ≢ []
