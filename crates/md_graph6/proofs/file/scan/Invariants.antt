use Rattle.std.proofs.Common.{length}
use Rattle.md_graph6.specs.FileLine.{line_fault, graph_of_line}
use Rattle.md_graph6.specs.File.{file_lines}
use Rattle.md_graph6.proofs.ReadLemmas.{IsRead}
use Rattle.md_graph6.proofs.file.scan.Given as goal

abbrev pub invariant-loop-rest : goal.invariant-loop-rest
invariant-loop-rest l =
    IsRead (line_fault l.fn.limit) graph_of_line (file_lines l.fn.bytes) (length l.fn.bytes) l.rest l.number l.count

abbrev pub decreases-loop-rest : goal.decreases-loop-rest
decreases-loop-rest l = length l.rest
