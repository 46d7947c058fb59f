-- The levels of a class whose arcs stand by distance: how far each place is, and the arcs that are so far.
-- Source: the tree of a breadth-first search, as in any textbook on algorithms.
use Rattle.std.specs.Prelude.{ℕ, zero, suc, ◌-◌, Bool, ◌==◌, if◌then◌else◌, List, [], ◌∷◌, ◌++◌, length, Option, Some, None, slice_get}
use Rattle.md_forcing.specs.declared.arc.Arc.{Arc}
use Rattle.md_forcing.specs.Classes.{IsClass}

-- the place that an entry has, if there is one
abbrev pub entry_place : Option (Arc × ℕ) → ℕ
entry_place None = 0
entry_place (Some entry) = entry.1

-- how many steps lead from a place back to the first, within a bound
unfoldable pub depth_within : List (Arc × ℕ) → ℕ → ℕ → ℕ
depth_within es zero k = 0
depth_within es (suc n) zero = 0
depth_within es (suc n) (suc k) = suc (depth_within es n (entry_place (slice_get es (suc k))))

-- how many steps lead from a place back to the first: places fall, so there are no more than the place says
abbrev pub depth : List (Arc × ℕ) → ℕ → ℕ
depth es k = depth_within es k k

-- of entries that begin at place i, the arcs at places of depth d
unfoldable pub arcs_at : List (Arc × ℕ) → ℕ → ℕ → List (Arc × ℕ) → List Arc
arcs_at es d i [] = []
arcs_at es d i (x ∷ xs) = if depth es i == d then x.0 ∷ arcs_at es d (suc i) xs else arcs_at es d (suc i) xs

-- the arcs at places of depth d
abbrev pub level : List (Arc × ℕ) → ℕ → List Arc
level es d = arcs_at es d 0 es

-- the first n levels
unfoldable pub levels_to : List (Arc × ℕ) → ℕ → List (List Arc)
levels_to es zero = []
levels_to es (suc n) = levels_to es n ++ level es n ∷ []

-- all levels: the last place is the farthest
unfoldable pub levels_of : List (Arc × ℕ) → List (List Arc)
levels_of es = levels_to es (suc (depth es (length es - 1)))

-- the entries are the class of some arc of some graph
abbrev pub IsSomeClass : List (Arc × ℕ) → Type 0
IsSomeClass es = (e : ℕ → ℕ → Bool) × (first : Arc) × IsClass e first es
