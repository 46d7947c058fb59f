-- The line that says whether a graph has a transitive orientation.
-- Source: Golumbic, Algorithmic Graph Theory and Perfect Graphs, chapter 5; the rule of the least edge is this project's.
use Rattle.std.specs.Prelude.{◌≡◌, ℕ, Bool, List}
use Rattle.md_forcing.specs.declared.arc.Arc.{Arc}
use Rattle.md_comparability.specs.Chains.{IsForcingChain, IsShortestChain}
use Rattle.md_comparability.specs.Orientations.{HasTransitiveOrientation, IsLeastEdgeOrientation}
use Rattle.md_report.specs.Lines.{PlainLine, oriented, forced}

-- the arcs of the least-edge orientation, in ascending order, where there is a transitive orientation; or a forcing chain
abbrev pub IsOrientationLine : (ℕ → ℕ → Bool) → PlainLine → Type 0
IsOrientationLine e (oriented arcs) = HasTransitiveOrientation e × IsLeastEdgeOrientation e arcs
IsOrientationLine e (forced chain) = IsForcingChain e chain
IsOrientationLine e _ = ⊥

-- such a line, where the forcing chain is a shortest one
pub record IsShortestLine (e : ℕ → ℕ → Bool) (line : PlainLine) : Type 0 where
  pub is : IsOrientationLine e line
  pub shortest : (chain : List Arc) → line ≡ forced chain → IsShortestChain e chain
