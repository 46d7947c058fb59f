use Rattle.std.proofs.Common.{◌+◌, ◌≤◌, length}
use Rattle.md_text.specs.Lines.{lines}
use Rattle.md_dimacs.specs.Read.{IsBeforeProblem}
use Rattle.md_dimacs.proofs.reader.find_problem.Given as goal

abbrev pub invariant-loop-rest : goal.invariant-loop-rest
invariant-loop-rest l = record {
  before : IsBeforeProblem (lines l.fn.bytes) l.count (lines l.rest);
  room : l.count + length l.rest ≤ length l.fn.bytes;
}

abbrev pub decreases-loop-rest : goal.decreases-loop-rest
decreases-loop-rest l = length l.rest
