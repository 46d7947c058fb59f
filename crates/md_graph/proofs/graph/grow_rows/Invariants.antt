use Rattle.std.proofs.Common.{◌≡◌, ◌≤◌, ℕ, vec_len, vec_capacity}
use Rattle.md_graph.specs.Rows.{row_of}
use Rattle.md_graph.proofs.graph.grow_rows.Given as goal

abbrev pub invariant-loop : goal.invariant-loop
invariant-loop g l = record {
  same : (v : ℕ) → row_of l.rows.items v ≡ row_of l.initial.rows.items v;
  few : (most : ℕ) → vec_len l.initial.rows ≤ most → l.size ≤ most → vec_len l.rows ≤ most;
  len : vec_len l.rows ≡ l.counter;
  capacity : vec_capacity l.rows ≡ vec_capacity l.initial.rows;
  room : l.size ≤ vec_capacity l.rows;
}
