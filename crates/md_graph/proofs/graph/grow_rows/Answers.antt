use Rattle.md_graph.proofs.graph.grow_rows.Goals as goal

pub returns-clause-few : goal.returns-clause-few
returns-clause-few g c = c.loop.invariant.few
