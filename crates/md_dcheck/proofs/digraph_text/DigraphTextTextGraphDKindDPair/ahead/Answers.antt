use Rattle.md_dcheck.proofs.ArcViews.{arcs_ahead}
use Rattle.md_dcheck.proofs.digraph_text.DigraphTextTextGraphDKindDPair.ahead.Goals as goal

pub returns-clause-row : goal.returns-clause-row
returns-clause-row g c = arcs_ahead c.vertices-vertices.ensures.digraph c.args.v c.successors.result.now c.successors.ensures.set
