use Rattle.std.proofs.Common.{◌≡◌, ◌≤◌, ℕ, None, get_or, vec_len}
use Rattle.md_graph.specs.declared.TheConstants.{NAMES}
use Rattle.md_refine.proofs.partition.Partition.class_numbers.Given as goal

abbrev pub invariant-loop : goal.invariant-loop
invariant-loop l = record {
  few : vec_len l.numbers ≤ NAMES;
  len : vec_len l.numbers ≡ l.counter;
  same : (v : ℕ) → get_or l.numbers.items v None ≡ get_or l.initial.numbers.items v None;
}
