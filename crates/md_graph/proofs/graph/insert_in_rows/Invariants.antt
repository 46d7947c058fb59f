use Rattle.std.proofs.Common.{◌≡◌, ℕ}
use Rattle.std.specs.FinSet as set
use Rattle.md_graph.proofs.EachRow.{Lists, listed, changed}
use Rattle.md_graph.proofs.graph.insert_in_rows.Given as goal

abbrev pub invariant-loop-u : goal.invariant-loop-u
invariant-loop-u g l = record {
  left : Lists l.names l.u-iterator;
  result : (u : ℕ) → changed (λ s. set.insert s l.v) (listed l.u-iterator) l.rows u ≡ changed (λ s. set.insert s l.v) l.names l.initial.rows u;
}
