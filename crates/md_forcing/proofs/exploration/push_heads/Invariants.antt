use Rattle.md_forcing.specs.Turns.{tail_entry}
use Rattle.md_forcing.proofs.Pushing.{Pushing}
use Rattle.md_forcing.proofs.exploration.push_heads.Given as goal

abbrev pub invariant-loop-head : goal.invariant-loop-head
invariant-loop-head g l = Pushing (tail_entry l.tail l.place) l.heads l.fn.trail l.trail l.head-iterator
