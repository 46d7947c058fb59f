use Rattle.std.proofs.Common.{◌≡◌, ◌≤◌, length}
use Rattle.md_digraph.specs.PlainDigraph.{empty_digraph}
use Rattle.md_dcheck.specs.DirectedReports.{at_digraphs}
use Rattle.md_top.specs.Sinks.{AppendsDirected}
use Rattle.md_top.proofs.directed.put_trees.Given as goal

abbrev pub invariant-loop-room : goal.invariant-loop-room
invariant-loop-room g l = record {
  progress : AppendsDirected (at_digraphs l.fn.digraphs) (at_digraphs l.digraphs) (g.O.Sink.holds l.fn.out) (g.O.Sink.holds l.out);
  no_vertex : l.room ≡ empty_digraph;
  faults : g.O.Sink.faults l.fn.out ≤ g.O.Sink.faults l.out;
}

abbrev pub decreases-loop-room : goal.decreases-loop-room
decreases-loop-room g l = length l.digraphs
