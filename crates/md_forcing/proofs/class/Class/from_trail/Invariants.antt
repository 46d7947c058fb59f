use Rattle.std.proofs.Common.{◌≡◌, take}
use Rattle.md_forcing.proofs.class.Class.from_trail.Given as goal

abbrev pub invariant-loop-i : goal.invariant-loop-i
invariant-loop-i l = l.class ≡ take l.i l.trail
