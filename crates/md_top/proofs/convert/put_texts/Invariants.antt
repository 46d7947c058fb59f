use Rattle.std.proofs.Common.{◌≡◌, ◌≤◌, length}
use Rattle.std.specs.List.{flat_map}
use Rattle.md_graph.specs.PlainGraph.{empty_graph}
use Rattle.md_top.specs.Answer.{graph_text}
use Rattle.md_top.proofs.Pieces.{Progress}
use Rattle.md_top.proofs.convert.put_texts.Given as goal

abbrev pub invariant-loop-room : goal.invariant-loop-room
invariant-loop-room g l = record {
  progress : Progress (g.O.Sink.holds l.fn.out) (g.O.Sink.holds l.out) (flat_map (graph_text l.to) l.fn.graphs) (flat_map (graph_text l.to) l.graphs);
  no_vertex : l.room ≡ empty_graph;
  faults : g.O.Sink.faults l.fn.out ≤ g.O.Sink.faults l.out;
}

abbrev pub decreases-loop-room : goal.decreases-loop-room
decreases-loop-room g l = length l.graphs
