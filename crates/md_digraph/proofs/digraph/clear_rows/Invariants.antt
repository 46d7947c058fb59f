use Rattle.std.proofs.Common.{◌≡◌, ℕ}
use Rattle.std.specs.FinSet as set
use Rattle.md_graph.proofs.EachRow.{Lists, listed, changed}
use Rattle.md_digraph.proofs.digraph.clear_rows.Given as goal

abbrev pub invariant-loop-u : goal.invariant-loop-u
invariant-loop-u g l = record {
  left : Lists l.names l.u-iterator;
  out : (u : ℕ) → changed (λ _. set.empty) (listed l.u-iterator) l.out u ≡ changed (λ _. set.empty) l.names l.initial.out u;
  into : (u : ℕ) → changed (λ _. set.empty) (listed l.u-iterator) l.into u ≡ changed (λ _. set.empty) l.names l.initial.into u;
}
