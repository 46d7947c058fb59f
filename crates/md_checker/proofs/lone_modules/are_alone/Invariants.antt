use Rattle.std.proofs.Common.{length}
use Rattle.std.specs.Prelude.{◌↔◌}
use Rattle.md_checker.specs.FitTests.{AreSingle}
use Rattle.md_checker.proofs.lone_modules.are_alone.Given as goal

abbrev pub invariant-loop-set : goal.invariant-loop-set
invariant-loop-set g l = AreSingle l.sets ↔ AreSingle l.rest

abbrev pub decreases-loop-set : goal.decreases-loop-set
decreases-loop-set g l = length l.rest
