use Rattle.std.proofs.Common.{◌≡◌, ℕ, ◌++◌}
use Rattle.md_graph.specs.declared.TheConstants.{NAMES}
use Rattle.md_graph.specs.NameSet.{ascending_between}
use Rattle.md_dimacs.specs.Places.{edges_text}
use Rattle.md_dimacs.proofs.TextLemmas.{rows_lines}
use Rattle.md_dimacs.proofs.writer.write_edges.Given as goal

abbrev pub invariant-loop-v : goal.invariant-loop-v
invariant-loop-v g l = record {
  coming : (low : ℕ) × (l.v-iterator ≡ ascending_between l.graph.vertices low NAMES);
  written : (l.text.items ++ l.chunk) ++ rows_lines l.graph l.v-iterator ≡ l.fn.text.items ++ edges_text l.graph;
}
