use Rattle.std.proofs.Common.{length}
use Rattle.md_graph6.proofs.ReadLemmas.{IsRead}
use Rattle.md_digraph6.specs.ArcLine.{arc_line_fault, digraph_of_line}
use Rattle.md_digraph6.specs.ArcFile.{arc_lines}
use Rattle.md_digraph6.proofs.file.scan_directed.Given as goal

abbrev pub invariant-loop-rest : goal.invariant-loop-rest
invariant-loop-rest l =
    IsRead arc_line_fault digraph_of_line (arc_lines l.fn.bytes) (length l.fn.bytes) l.rest l.number l.count

abbrev pub decreases-loop-rest : goal.decreases-loop-rest
decreases-loop-rest l = length l.rest
