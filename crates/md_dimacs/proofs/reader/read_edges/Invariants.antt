use Rattle.std.proofs.Common.{◌≡◌, ◌+◌, ◌≤◌, length, Some}
use Rattle.md_graph.specs.declared.TheConstants.{NAMES}
use Rattle.md_text.specs.Lines.{lines}
use Rattle.md_dimacs.specs.File.{fault_behind}
use Rattle.md_dimacs.specs.Read.{HasVertices, with_lines}
use Rattle.md_dimacs.proofs.reader.read_edges.Given as goal

abbrev pub invariant-loop-rest : goal.invariant-loop-rest
invariant-loop-rest g l = record {
  vertices : HasVertices l.n l.graph;
  room : l.count + length l.rest ≤ l.fn.count + length l.fn.bytes;
  added : with_lines l.fn.graph (lines l.fn.bytes) ≡ with_lines l.graph (lines l.rest);
  fault : fault_behind NAMES (Some l.n) l.fn.count (lines l.fn.bytes) ≡ fault_behind NAMES (Some l.n) l.count (lines l.rest);
}

abbrev pub decreases-loop-rest : goal.decreases-loop-rest
decreases-loop-rest g l = length l.rest
