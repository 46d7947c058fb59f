use Rattle.md_graph.proofs.RowLemmas.{Counted}
use Rattle.md_graph.proofs.graph.GraphOf.edge_count.Given as goal

abbrev pub invariant-loop-v : goal.invariant-loop-v
invariant-loop-v g l = Counted l.self-inside.live l.self-inside.rows.items l.ends l.v-iterator
