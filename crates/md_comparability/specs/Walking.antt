-- The walk through the edges of a graph, smaller ends first: which arcs it has chosen.
-- Source: the rule of the least edge, as the definition of the least-edge orientation has it.
use Rattle.std.specs.Prelude.{◌≡◌, ◌<◌, ◌⊎◌, ◌↔◌, ℕ, Bool, true, List, length}
use Rattle.std.specs.Map.{keys_of}
use Rattle.md_graph.specs.Sets.{NameSet, Has}
use Rattle.md_forcing.specs.declared.arc.Arc.{Arc}
use Rattle.md_forcing.specs.Lists.{Holds}
use Rattle.md_forcing.specs.Forcing.{arc, reverse, Reaches}
use Rattle.md_forcing.specs.ArcSet.{HasArc, IsForcingClosed}
use Rattle.md_forcing.specs.Classes.{IsClass}
use Rattle.md_comparability.specs.declared.edge_walk.ClassOrChosen.{ClassOrChosen}
use Rattle.md_comparability.specs.declared.edge_walk.ClassOrChosen.TheVariants.{Stopped, Whole}
use Rattle.md_comparability.specs.Chains.{Precedes}
use Rattle.md_comparability.specs.Orientations.{IsChosen}

-- the set has an arc of the edge xy
abbrev pub HasArcOf : List NameSet → ℕ → ℕ → Type 0
HasArcOf arcs x y = HasArc arcs (arc x y) ⊎ HasArc arcs (arc y x)

-- the new set has an arc of each edge at u of which the old one has one, and of the edge uv
abbrev pub JoinsAlso : ℕ → ℕ → List NameSet → List NameSet → Type 0
JoinsAlso u v old new = (y : ℕ) → HasArcOf old u y ⊎ (y ≡ v) → HasArcOf new u y

-- the edges whose smaller end is below u have been looked at
pub record IsWalked (e : ℕ → ℕ → Bool) (u : ℕ) (chosen : List NameSet) : Type 0 where
  -- what is chosen are arcs of the least-edge orientation, with each all that it forces; none reaches its reverse
  pub kept : (a : Arc) → HasArc chosen a → IsChosen e a
  pub closed : IsForcingClosed e chosen
  pub free : (a : Arc) → HasArc chosen a → ¬ Reaches e a (reverse a)
  -- an arc of each edge whose smaller end is below u is chosen
  pub done : (x y : ℕ) → x < y → e x y ≡ true → x < u → HasArcOf chosen x y

-- the class of the least edge that reaches its own reverse
pub record IsStopped (e : ℕ → ℕ → Bool) (class : List (Arc × ℕ)) : Type 0 where
  pub u : ℕ
  pub v : ℕ
  pub ascending : u < v
  pub is : IsClass e (arc u v) class
  pub turns : Holds (keys_of class) (arc v u)
  pub least : (x y : ℕ) → x < y → Reaches e (arc x y) (arc y x) → ¬ Precedes x y u v

-- all arcs of the least-edge orientation, where no arc reaches its reverse
pub record IsWholeOrientation (e : ℕ → ℕ → Bool) (chosen : List NameSet) : Type 0 where
  pub free : (a : Arc) → ¬ Reaches e a (reverse a)
  pub all : (a : Arc) → HasArc chosen a ↔ IsChosen e a

-- where a walk ends
abbrev pub IsClassOrChosen : {w : ℕ} → (ℕ → ℕ → Bool) → ClassOrChosen w → Type 0
IsClassOrChosen e (Stopped class) = IsStopped e class
IsClassOrChosen e (Whole chosen) = IsWholeOrientation e chosen

-- the chosen arcs have room for each member of s
abbrev pub HasArcRoom : {w : ℕ} → NameSet → ClassOrChosen w → Type 0
HasArcRoom s (Stopped class) = Unit {0}
HasArcRoom s (Whole chosen) = (v : ℕ) → Has s v → v < length chosen
