-- Transitive orientations, and the one that the least edge of each class gives.
-- Source: Golumbic, Algorithmic Graph Theory and Perfect Graphs, chapter 5; the rule of the least edge is this project's.
use Rattle.std.specs.Prelude.{◌≡◌, ◌<◌, ◌⊎◌, ◌↔◌, ℕ, Bool, true, List, [], ◌∷◌}
use Rattle.md_forcing.specs.declared.arc.Arc.{Arc}
use Rattle.md_forcing.specs.Lists.{Holds}
use Rattle.md_forcing.specs.Forcing.{arc, Reaches}
use Rattle.md_comparability.specs.Chains.{Precedes}

-- a set of arcs, by its test: exactly one of the two arcs of each edge, and with u>v and v>w it holds u>w
pub record IsTransitiveOrientation (e f : ℕ → ℕ → Bool) : Type 0 where
  pub arcs : (u v : ℕ) → f u v ≡ true → e u v ≡ true
  pub one : (u v : ℕ) → e u v ≡ true → (f u v ≡ true) ⊎ (f v u ≡ true)
  pub not_both : (u v : ℕ) → f u v ≡ true → f v u ≡ true → ⊥
  pub transitive : (u v w : ℕ) → f u v ≡ true → f v w ≡ true → f u w ≡ true

-- the graph has a transitive orientation
abbrev pub HasTransitiveOrientation : (ℕ → ℕ → Bool) → Type 0
HasTransitiveOrientation e = (f : ℕ → ℕ → Bool) × IsTransitiveOrientation e f

-- a reaches an arc of the edge uv
abbrev pub ReachesEdge : (ℕ → ℕ → Bool) → Arc → ℕ → ℕ → Type 0
ReachesEdge e a u v = Reaches e a (arc u v) ⊎ Reaches e a (arc v u)

-- uv, u < v, is the least edge that has an arc reached from a
pub record IsLeastEdge (e : ℕ → ℕ → Bool) (a : Arc) (u v : ℕ) : Type 0 where
  pub ascending : u < v
  pub reached : ReachesEdge e a u v
  pub least : (x y : ℕ) → x < y → ReachesEdge e a x y → ¬ Precedes x y u v

-- a is in the least-edge orientation: it reaches u>v, where uv, u < v, is the least edge that has an arc reached from a
abbrev pub IsChosen : (ℕ → ℕ → Bool) → Arc → Type 0
IsChosen e a = (u : ℕ) × (v : ℕ) × IsLeastEdge e a u v × Reaches e a (arc u v)

-- arcs in ascending order of tail, then head
abbrev pub AreAscending : List Arc → Type 0
AreAscending [] = Unit {0}
AreAscending (a ∷ list) = ((b : Arc) → Holds list b → Precedes a.tail a.head b.tail b.head) × AreAscending list

-- the list of the arcs of the least-edge orientation, in ascending order
pub record IsLeastEdgeOrientation (e : ℕ → ℕ → Bool) (list : List Arc) : Type 0 where
  pub arcs : (a : Arc) → Holds list a ↔ IsChosen e a
  pub ascending : AreAscending list
