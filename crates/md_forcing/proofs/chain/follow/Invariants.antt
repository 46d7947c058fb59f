use Rattle.md_forcing.specs.Forcing.{reverse}
use Rattle.md_forcing.proofs.Following.{Following}
use Rattle.md_forcing.proofs.chain.follow.Given as goal

abbrev pub invariant-loop-at : goal.invariant-loop-at
invariant-loop-at l = Following l.trail (reverse l.first) l.at l.list.items

abbrev pub decreases-loop-at : goal.decreases-loop-at
decreases-loop-at l = l.at
