use Rattle.md_decompose.proofs.Heads.{IsHeading}
use Rattle.md_decompose.proofs.quotient.heads_of.Given as goal

abbrev pub invariant-loop-place : goal.invariant-loop-place
invariant-loop-place g l = IsHeading l.sets l.place l.heads l.places
