use Rattle.std.proofs.Common.{arith}
use Rattle.md_graph.proofs.RowLemmas.{row_is, row_past, graph_is}
use Rattle.md_graph.proofs.graph.GraphOf.row.Goals as goal

pub returns-then-len-at-clause-set : goal.returns-then-len-at-clause-set
returns-then-len-at-clause-set g c = row_past c.self.invariant.0 c.self.view_is c.args.v (omega (arith, c.if-len-at.true, c.len.ensures)) c.self.invariant.1.empty

pub returns-then-len-at-clause-graph : goal.returns-then-len-at-clause-graph
returns-then-len-at-clause-graph g c = graph_is c.self.invariant.0 c.self.view_is

pub returns-clause-set : goal.returns-clause-set
returns-clause-set g c = row_is c.self.invariant.0 c.self.view_is c.args.v (omega (arith, c.if-len-at.false, c.len.ensures)) _ c.index.ensures

pub returns-clause-graph : goal.returns-clause-graph
returns-clause-graph g c = graph_is c.self.invariant.0 c.self.view_is
