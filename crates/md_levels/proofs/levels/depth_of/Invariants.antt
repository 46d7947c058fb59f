use Rattle.std.proofs.Common.{ℕ, ◌+◌, ◌<◌, ◌≤◌, length}
use Rattle.md_forcing.specs.Classes.{IsAtDistance}
use Rattle.md_levels.proofs.levels.depth_of.Given as goal

abbrev pub invariant-loop-at : goal.invariant-loop-at
invariant-loop-at l = record {
  within : l.at < length l.trail;
  low : l.depth + l.at ≤ l.place;
  further : (n : ℕ) → IsAtDistance l.trail n l.at → IsAtDistance l.trail (n + l.depth) l.place;
}

abbrev pub decreases-loop-at : goal.decreases-loop-at
decreases-loop-at l = l.at
