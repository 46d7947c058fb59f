use Rattle.std.proofs.Common.{◌≡◌, length}
use Rattle.md_graph6.specs.File.{stripped_lines, from_first}
use Rattle.md_graph6.proofs.reader.next_line.Given as goal

abbrev pub invariant-loop-rest : goal.invariant-loop-rest
invariant-loop-rest l = from_first (stripped_lines l.rest) ≡ from_first (stripped_lines l.fn.text)

abbrev pub decreases-loop-rest : goal.decreases-loop-rest
decreases-loop-rest l = length l.rest
