use Rattle.md_digraph.proofs.ArcRowLemmas.{still_below, successors_are, digraph_is}
use Rattle.md_digraph.proofs.digraph.DigraphOf.successors.Goals as goal

pub returns-clause-set : goal.returns-clause-set
returns-clause-set g c =
    successors_are c.self.invariant.0 c.self.view_is c.args.v (still_below c.self.invariant.0 c.self.view_is c.args.v c.requires) _ c.index.ensures

pub returns-clause-digraph : goal.returns-clause-digraph
returns-clause-digraph g c = digraph_is c.self.invariant.0 c.self.view_is
