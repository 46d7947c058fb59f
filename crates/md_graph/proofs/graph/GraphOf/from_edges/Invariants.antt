use Rattle.std.proofs.Common.{◌≡◌, take}
use Rattle.md_graph.specs.Listed.{graph_of_list}
use Rattle.md_graph.proofs.ListedLemmas.{AreSound}
use Rattle.md_graph.proofs.graph.GraphOf.from_edges.Given as goal

abbrev pub invariant-loop-pair : goal.invariant-loop-pair
invariant-loop-pair g l = record {
  graph : l.graph ≡ graph_of_list l.fn.count (take l.pair-index l.edges);
  sound : AreSound l.fn.count l.edges l.pair-index;
}
