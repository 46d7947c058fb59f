use Rattle.md_dcheck.proofs.ArcTests.{same_arcs}
use Rattle.md_dcheck.proofs.digraph_text.DigraphTextTextGraphDKindDPair.agree_on.Goals as goal

pub returns : goal.returns
returns g c = record {
  agree =
      let both = same_arcs c.vertices-vertices.ensures.digraph c.args.v c.args.w c.args.names.now c.successors.result.now c.predecessors.result.now c.successors.ensures.set c.predecessors.ensures.set in
      (λ yes. both.0 (c.has_arcs.ensures.0 yes), λ alike. c.has_arcs.ensures.1 (both.1 alike));
}
