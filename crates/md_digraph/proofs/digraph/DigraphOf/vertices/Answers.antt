use Rattle.md_digraph.proofs.ArcRowLemmas.{digraph_is}
use Rattle.md_digraph.proofs.digraph.DigraphOf.vertices.Goals as goal

pub returns-clause-digraph : goal.returns-clause-digraph
returns-clause-digraph g c = digraph_is c.self.invariant.0 c.self.view_is
