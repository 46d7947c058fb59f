use Rattle.std.proofs.Common.{ℕ}
use Rattle.md_cotree.specs.Climbs.{Climbs}
use Rattle.md_cotree.proofs.Ways.{IsBelow}
use Rattle.md_cotree.proofs.adjacency.ancestor.Given as goal

abbrev pub invariant-loop-step : goal.invariant-loop-step
invariant-loop-step g l = (a : ℕ) → Climbs l.lists l.count l.p a → IsBelow l.lists l.p l.place l._step l.count a
