-- What the search for an induced path says of its steps.
-- Source: an induced path with a given vertex, by the components of its neighbours and of the other
-- vertices.
use Rattle.std.specs.Prelude.{◌≡◌, ◌≢◌, ◌<◌, ◌≤◌, ℕ, Bool, not, true, false}
use Rattle.md_graph.specs.Sets.{NameSet, Has, Within}
use Rattle.md_graph.specs.PlainGraph.{PlainGraph, adjacent}
use Rattle.md_modules.specs.declared.induced_paths.P4.{P4}

-- o sees m and not z
pub record ToldApart (g : PlainGraph) (o m z : ℕ) : Type 0 where
  pub sees : adjacent g o m ≡ true
  pub misses : adjacent g o z ≡ false

-- side has the vertices other than x that x sees (the value is true), or that it doesn't see
pub record IsSide (g : PlainGraph) (x : ℕ) (value : Bool) (side : NameSet) : Type 0 where
  pub inside : Within side g.vertices
  pub alike : (z : ℕ) → Has side z → adjacent g x z ≡ value
  pub all : (z : ℕ) → Has g.vertices z → z ≢ x → adjacent g x z ≡ value → Has side z

-- z is one of names, and one of others is to it as the value doesn't say
pub record IsMet (g : PlainGraph) (names others : NameSet) (value : Bool) (z : ℕ) : Type 0 where
  pub inside : Has names z
  pub by : (o : ℕ) × Has others o × (adjacent g o z ≡ not value)

-- p is a, b, c, d in this order, or turned round where d is the smaller end
pub record IsPathOf (p : P4) (a b c d : ℕ) : Type 0 where
  pub kept : a < d → p ≡ record { a = a; b = b; c = c; d = d }
  pub turned : d ≤ a → p ≡ record { a = d; b = c; c = b; d = a }

-- u sees z and v doesn't, and z isn't v
pub record IsSeenAlone (g : PlainGraph) (u v z : ℕ) : Type 0 where
  pub sees : adjacent g u z ≡ true
  pub misses : adjacent g v z ≡ false
  pub other : z ≢ v

-- z is a vertex, and to both u and v as `joined` doesn't say
pub record IsSeenAlike (g : PlainGraph) (u v : ℕ) (joined : Bool) (z : ℕ) : Type 0 where
  pub vertex : Has g.vertices z
  pub first : adjacent g u z ≡ not joined
  pub second : adjacent g v z ≡ not joined
