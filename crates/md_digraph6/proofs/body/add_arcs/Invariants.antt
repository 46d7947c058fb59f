use Rattle.std.proofs.Common.{◌≡◌, ◌==◌, ◌&&◌, ◌||◌}
use Rattle.std.specs.FinSet as set
use Rattle.md_graph.proofs.EachRow.{Lists}
use Rattle.md_digraph.specs.PlainDigraph.{has_arc_to}
use Rattle.md_digraph6.proofs.ArcFill.{AreAhead, HasWithHeads}
use Rattle.md_digraph6.proofs.body.add_arcs.Given as goal

abbrev pub invariant-loop-v : goal.invariant-loop-v
invariant-loop-v g l = record {
  left : Lists l.heads l.v-iterator;
  ahead : AreAhead l.graph l.u l.v-iterator;
  vertices : l.graph.vertices ≡ l.initial.graph.vertices;
  arcs : HasWithHeads l.graph l.u l.v-iterator (λ a b. ((a == l.u) && set.contains l.heads b) || has_arc_to l.initial.graph a b);
}
