use Rattle.std.proofs.Common.{◌≡◌, ◌≤◌, length}
use Rattle.md_graph.specs.PlainGraph.{empty_graph}
use Rattle.md_report.specs.Places.{at_graphs}
use Rattle.md_top.specs.Sinks.{AppendsLines}
use Rattle.md_top.proofs.report.put_graph_lines.Given as goal

abbrev pub invariant-loop-space : goal.invariant-loop-space
invariant-loop-space g l = record {
  progress : AppendsLines (at_graphs l.mode l.fn.graphs) (at_graphs l.mode l.graphs) (g.O.Sink.holds l.fn.out) (g.O.Sink.holds l.out);
  no_vertex : l.room ≡ empty_graph;
  faults : g.O.Sink.faults l.fn.out ≤ g.O.Sink.faults l.out;
}

abbrev pub decreases-loop-space : goal.decreases-loop-space
decreases-loop-space g l = length l.graphs
