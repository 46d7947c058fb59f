use Rattle.std.proofs.Common.{ℕ, Bool}
use Rattle.md_cotree.specs.Climbs.{Meet}
use Rattle.md_cotree.proofs.Ways.{IsMeeting}
use Rattle.md_cotree.proofs.adjacency.meet_at_series.Given as goal

abbrev pub invariant-loop-step : goal.invariant-loop-step
invariant-loop-step g l = (n : ℕ) (b : Bool) → Meet l.lists l.p l.q n n b → IsMeeting l.lists l.left l.right l._step n b
