use Rattle.md_orient.proofs.Answering.{forced, no_none}
use Rattle.md_orient.proofs.orientation.chain_along.Goals as goal

pub chain_of-requires : goal.chain_of-requires
chain_of-requires c = let stopped = c.requires in (stopped.0, _, stopped.1.is)

pub unreachable-requires : goal.unreachable-requires
unreachable-requires c = let stopped = c.requires in no_none stopped.0 _ stopped.1 (rw c.in-None.is at c.in_ok-chain.ensures.none)

pub returns : goal.returns
returns c = λ e stopped. forced e _ stopped c.in-Some.chain (rw c.in-Some.is at c.in_ok-chain.ensures.found)
