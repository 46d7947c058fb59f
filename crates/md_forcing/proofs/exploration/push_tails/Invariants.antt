use Rattle.md_forcing.specs.Turns.{head_entry}
use Rattle.md_forcing.proofs.Pushing.{Pushing}
use Rattle.md_forcing.proofs.exploration.push_tails.Given as goal

abbrev pub invariant-loop-tail : goal.invariant-loop-tail
invariant-loop-tail g l = Pushing (head_entry l.head l.place) l.tails l.fn.trail l.trail l.tail-iterator
