use Rattle.std.proofs.Common.{◌*◌, ◌≤◌, vec_capacity}
use Rattle.md_graph.proofs.RowLemmas.{Made}
use Rattle.md_graph.proofs.graph.GraphOf.copy.Given as goal

abbrev pub invariant-loop-v : goal.invariant-loop-v
invariant-loop-v g l = record {
  made : Made l.self l.v l.rows.items;
  room : 64 * g.row.W ≤ vec_capacity l.rows;
}
