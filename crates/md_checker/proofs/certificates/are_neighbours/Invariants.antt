use Rattle.std.proofs.Common.{◌≡◌, ◌⊎◌, ℕ}
use Rattle.md_graph.specs.Sets.{Has}
use Rattle.md_graph.specs.Rows.{row_of}
use Rattle.md_graph.specs.PlainGraph.{neighbours}
use Rattle.md_forcing.specs.Lists.{Holds}
use Rattle.md_checker.proofs.certificates.are_neighbours.Given as goal

abbrev pub invariant-loop-v : goal.invariant-loop-v
invariant-loop-v g l = record {
  within : (v : ℕ) → Holds l.v-iterator v → Has l.graph.vertices v;
  passed : (v : ℕ) → Has l.graph.vertices v → Holds l.v-iterator v ⊎ (row_of l.rows v ≡ neighbours l.graph v);
}
