-- A turn of the exploration of a class.
-- Source: the search of a graph, as in any textbook on algorithms.
use Rattle.std.specs.Prelude.{◌≡◌, ◌⊎◌, ◌↔◌, ◌++◌, ℕ, Bool, List, Some, slice_get, map}
use Rattle.md_graph.specs.Sets.{NameSet}
use Rattle.md_forcing.specs.declared.arc.Arc.{Arc}
use Rattle.md_forcing.specs.Lists.{Holds, NoRepeats}
use Rattle.md_forcing.specs.Forcing.{arc, IsArc, ForcesDirectly}
use Rattle.md_forcing.specs.ArcSet.{HasArc}

-- the entry of the arc from `tail` to w, with a place
abbrev pub tail_entry : ℕ → ℕ → ℕ → Arc × ℕ
tail_entry tail place w = (arc tail w, place)

-- the entry of the arc from w to `head`, with a place
abbrev pub head_entry : ℕ → ℕ → ℕ → Arc × ℕ
head_entry head place w = (arc w head, place)

-- the entry of an arc, with a place
abbrev pub placed_at : ℕ → Arc → Arc × ℕ
placed_at place b = (b, place)

-- the arcs that the arc at a place forces directly and that weren't seen came behind the others, with that place, and
-- are seen
pub record TakesForced (e : ℕ → ℕ → Bool) (place : ℕ) (seen : List NameSet) (old : List (Arc × ℕ)) (new_seen : List NameSet) (new : List (Arc × ℕ)) : Type 0 where
  pub by : Arc
  pub its_place : ℕ
  pub stands : slice_get old place ≡ Some (by, its_place)
  pub more : List Arc
  pub longer : new ≡ old ++ map (placed_at place) more
  pub once : NoRepeats more
  pub exactly : (b : Arc) → Holds more b ↔ (IsArc e b × ForcesDirectly e by b × (HasArc seen b → ⊥))
  pub taken : (b : Arc) → HasArc new_seen b ↔ (HasArc seen b ⊎ Holds more b)
