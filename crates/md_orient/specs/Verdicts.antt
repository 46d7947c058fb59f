-- The answer on orientations.
-- Source: Golumbic, Algorithmic Graph Theory and Perfect Graphs, chapter 5; the rule of the least edge is this project's.
use Rattle.std.specs.Prelude.{ℕ, Bool}
use Rattle.md_comparability.specs.Chains.{IsShortestChain}
use Rattle.md_comparability.specs.Orientations.{HasTransitiveOrientation, IsLeastEdgeOrientation}
use Rattle.md_orient.specs.declared.orientation.Verdict.{Verdict}
use Rattle.md_orient.specs.declared.orientation.Verdict.TheVariants.{Transitive, Forced}

-- a shortest forcing chain, or the least-edge orientation where there is a transitive orientation
abbrev pub IsVerdict : (ℕ → ℕ → Bool) → Verdict → Type 0
IsVerdict e (Transitive list) = HasTransitiveOrientation e × IsLeastEdgeOrientation e list
IsVerdict e (Forced chain) = IsShortestChain e chain
