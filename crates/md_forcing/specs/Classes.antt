-- The class of an arc: the arcs that it reaches, each with the place of one before it that forces it directly.
-- Source: Golumbic, Algorithmic Graph Theory and Perfect Graphs, chapter 5.
use Rattle.std.specs.Prelude.{◌≡◌, ◌<◌, ◌≤◌, ◌⊎◌, ◌↔◌, ℕ, zero, suc, Bool, List, Some, slice_get}
use Rattle.std.specs.Map.{keys_of}
use Rattle.md_graph.specs.Sets.{NameSet}
use Rattle.md_forcing.specs.declared.arc.Arc.{Arc}
use Rattle.md_forcing.specs.Lists.{Holds, NoRepeats}
use Rattle.md_forcing.specs.Forcing.{reverse, ForcesDirectly, Reaches}
use Rattle.md_forcing.specs.ArcSet.{HasArc}

-- p is the place of an arc before place i that forces a directly
pub record IsForcedAt (e : ℕ → ℕ → Bool) (entries : List (Arc × ℕ)) (i p : ℕ) (a : Arc) : Type 0 where
  pub before : p < i
  pub by : Arc
  pub its_place : ℕ
  pub stands : slice_get entries p ≡ Some (by, its_place)
  pub forces : ForcesDirectly e by a

-- Arcs stand by how far they are from the first one: places never fall, and no arc at a place before its own forces an arc
-- directly.
pub record AreByDistance (e : ℕ → ℕ → Bool) (entries : List (Arc × ℕ)) : Type 0 where
  pub in_order : (i j p q : ℕ) (a b : Arc) → i ≤ j → slice_get entries i ≡ Some (a, p) → slice_get entries j ≡ Some (b, q) → p ≤ q
  pub earliest : (i j p q : ℕ) (a b : Arc) → slice_get entries i ≡ Some (a, p) → slice_get entries j ≡ Some (b, q) → j < p → ¬ (ForcesDirectly e b a)

-- the entries are the class of `first`
pub record IsClass (e : ℕ → ℕ → Bool) (first : Arc) (entries : List (Arc × ℕ)) : Type 0 where
  -- the first entry is `first`, with its own place
  pub begins : slice_get entries 0 ≡ Some (first, 0)
  -- the arcs are exactly those that `first` reaches, each once
  pub once : NoRepeats (keys_of entries)
  pub reached : (a : Arc) → Holds (keys_of entries) a ↔ Reaches e first a
  -- each later one has a smaller place than its own, and the arc there forces it directly
  pub forced : (i p : ℕ) (a : Arc) → 0 < i → slice_get entries i ≡ Some (a, p) → IsForcedAt e entries i p a
  -- the nearest to the first come first
  pub by_distance : AreByDistance e entries

-- n steps lead from the arc at place k back to the first, each to the place of the arc that forced it
abbrev pub IsAtDistance : List (Arc × ℕ) → ℕ → ℕ → Type 0
IsAtDistance entries zero k = k ≡ 0
IsAtDistance entries (suc n) k = (0 < k) × (p : ℕ) × (a : Arc) × (slice_get entries k ≡ Some (a, p)) × IsAtDistance entries n p

-- the set holds the arcs that it held and those of the class
abbrev pub TakesClass : List NameSet → List (Arc × ℕ) → List NameSet → Type 0
TakesClass old entries new = (a : Arc) → HasArc new a ↔ (HasArc old a ⊎ Holds (keys_of entries) a)

-- the arc at the place is the reverse of the first
pub record TurnsAt (entries : List (Arc × ℕ)) (place : ℕ) : Type 0 where
  pub first : Arc
  pub first_place : ℕ
  pub its_place : ℕ
  pub begins : slice_get entries 0 ≡ Some (first, first_place)
  pub stands : slice_get entries place ≡ Some (reverse first, its_place)
