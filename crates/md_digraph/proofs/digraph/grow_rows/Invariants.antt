use Rattle.std.proofs.Common.{◌≡◌, ◌≤◌, ℕ, vec_len, vec_capacity}
use Rattle.md_graph.specs.Rows.{row_of}
use Rattle.md_digraph.proofs.digraph.grow_rows.Given as goal

abbrev pub invariant-loop : goal.invariant-loop
invariant-loop g l = record {
  out_same : (v : ℕ) → row_of l.out.items v ≡ row_of l.initial.out.items v;
  into_same : (v : ℕ) → row_of l.into.items v ≡ row_of l.initial.into.items v;
  few : (most : ℕ) → vec_len l.initial.out ≤ most → l.size ≤ most → vec_len l.out ≤ most;
  out_len : vec_len l.out ≡ l.counter;
  into_len : vec_len l.into ≡ l.counter;
  out_capacity : vec_capacity l.out ≡ vec_capacity l.initial.out;
  into_capacity : vec_capacity l.into ≡ vec_capacity l.initial.into;
  out_room : l.size ≤ vec_capacity l.out;
  into_room : l.size ≤ vec_capacity l.into;
}
