use Rattle.std.proofs.Common.{◌≤◌, ℕ, List, length, true}
use Rattle.md_tree.specs.Spellings.{Spelling, spelling}
use Rattle.md_tree.specs.Held.{HasBuilt}
use Rattle.md_tree.specs.declared.builder.Held.{Held}
use Rattle.md_tree.proofs.builder.end_nodes.Given as goal

-- whatever is read before the text, the rest stands behind a tree as well
pub record AreEndsRead {K P : Type 0} {w : ℕ} (sp : Spelling K P) (text rest : List ℕ) (before now : Held K P w) : Type 0 where
  pub some : (bytes : List ℕ) × HasBuilt sp bytes rest true now
  pub each : (bytes : List ℕ) → HasBuilt sp bytes text true before → HasBuilt sp bytes rest true now
  pub within : length rest ≤ length text

abbrev pub invariant-loop-first : goal.invariant-loop-first
invariant-loop-first g l = AreEndsRead (spelling g.K.Lettered.rules g.P.Paired.rules) l.text l.rest l.initial.held l.held

abbrev pub decreases-loop-first : goal.decreases-loop-first
decreases-loop-first g l = length l.rest
