-- Forcing chains: lists of arcs that lead from an arc to its reverse.
-- Source: Golumbic, Algorithmic Graph Theory and Perfect Graphs, chapter 5; the choice of the edge is this project's.
use Rattle.std.specs.Prelude.{◌≡◌, ◌<◌, ◌≤◌, ◌⊎◌, ℕ, Bool, List, length}
use Rattle.md_forcing.specs.declared.arc.Arc.{Arc}
use Rattle.md_forcing.specs.Forcing.{arc, IsListToReverse}

-- the edge xy is less than the edge uv: by smaller end, then by larger end, where each edge is written with its smaller
-- end first
abbrev pub Precedes : ℕ → ℕ → ℕ → ℕ → Type 0
Precedes x y u v = (x < u) ⊎ ((x ≡ u) × (y < v))

-- a list without repeats from u>v, u < v, to its reverse, in which neighbours force each other directly, where no edge
-- less than uv has one
pub record IsForcingChain (e : ℕ → ℕ → Bool) (list : List Arc) : Type 0 where
  pub u : ℕ
  pub v : ℕ
  pub ascending : u < v
  pub turns : IsListToReverse e (arc u v) list
  pub least : (x y : ℕ) (other : List Arc) → x < y → IsListToReverse e (arc x y) other → ¬ Precedes x y u v

-- the graph has a forcing chain
abbrev pub HasForcingChain : (ℕ → ℕ → Bool) → Type 0
HasForcingChain e = (list : List Arc) × IsForcingChain e list

-- a forcing chain, and no forcing chain has fewer arcs
pub record IsShortestChain (e : ℕ → ℕ → Bool) (list : List Arc) : Type 0 where
  pub chain : IsForcingChain e list
  pub shortest : (other : List Arc) → IsForcingChain e other → length list ≤ length other
