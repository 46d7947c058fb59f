use Rattle.md_graph.specs.NameSet.{ascending}
use Rattle.md_graph6.specs.Written.{IsWritten}
use Rattle.md_graph6.proofs.Listed.{IsAt}
use Rattle.md_graph6.proofs.writer.put_any.Given as goal

abbrev pub invariant-loop-v : goal.invariant-loop-v
invariant-loop-v g l = record {
  place : IsAt (ascending l.graph.vertices) l.v-iterator l.j;
  written : IsWritten l.body l.graph l.j;
}
