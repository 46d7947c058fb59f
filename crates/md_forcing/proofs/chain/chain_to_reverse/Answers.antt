use Rattle.std.proofs.Common.{sym, subst}
use Rattle.md_graph.specs.PlainGraph.{adjacent}
use Rattle.md_forcing.specs.Classes.{IsClass, TurnsAt}
use Rattle.md_forcing.proofs.Following.{turns_there}
use Rattle.md_forcing.proofs.chain.chain_to_reverse.Goals as goal

pub follow-requires-clause-turns : goal.follow-requires-clause-turns
follow-requires-clause-turns g c =
    subst (λ es. TurnsAt es c.in-Some.last) (sym c.in_ok-trail.ensures)
    (turns_there c.args.class.now c.in-Some.last c.entry.result.1 c.in-Some.ensures.found.0 c.entry.result.0 c.reverse_of.result c.entry.ensures c.reverse_of.ensures c.in-Some.ensures.found.1)

pub returns-clause-found : goal.returns-clause-found
returns-clause-found g c first is =
    c.in_ok-chain.ensures (adjacent c.args.graph.now) first (subst (IsClass (adjacent c.args.graph.now) first) (sym c.in_ok-trail.ensures) is)
