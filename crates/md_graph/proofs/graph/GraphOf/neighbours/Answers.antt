use Rattle.std.proofs.Common.{arith}
use Rattle.md_graph.proofs.RowLemmas.{still_below, row_is, graph_is}
use Rattle.md_graph.proofs.graph.GraphOf.neighbours.Goals as goal

pub index-requires : goal.index-requires
index-requires g c =
    let name = still_below c.self.invariant.0 c.self.view_is c.args.v c.requires.vertex in
    omega (arith, c.self.invariant.0.one_each)

pub returns-clause-set : goal.returns-clause-set
returns-clause-set g c =
    let name = still_below c.self.invariant.0 c.self.view_is c.args.v c.requires.vertex in
    row_is c.self.invariant.0 c.self.view_is c.args.v name _ c.index.ensures

pub returns-clause-graph : goal.returns-clause-graph
returns-clause-graph g c = graph_is c.self.invariant.0 c.self.view_is
