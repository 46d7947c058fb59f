use Rattle.md_graph.proofs.NameLemmas.{alone_is}
use Rattle.md_graph.proofs.names.Set.only_member.Goals as goal

pub returns-clause-one : goal.returns-clause-one
returns-clause-one g c = alone_is c.args.self.now c.in_ok-first.first c.in_ok-first.ensures.found (c.is_last.ensures.last c.if-not-is_last.false)
