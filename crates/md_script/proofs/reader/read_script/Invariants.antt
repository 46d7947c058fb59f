use Rattle.std.proofs.Common.{◌+◌, ◌≤◌, length}
use Rattle.md_text.specs.Lines.{lines}
use Rattle.md_script.proofs.FileLemmas.{HasReadLines}
use Rattle.md_script.proofs.reader.read_script.Given as goal

abbrev pub invariant-loop-rest : goal.invariant-loop-rest
invariant-loop-rest l = record {
  lines_read : HasReadLines (lines l.fn.bytes) l.count (lines l.rest) l.draft;
  room : l.count + length l.rest ≤ length l.fn.bytes;
}

abbrev pub decreases-loop-rest : goal.decreases-loop-rest
decreases-loop-rest l = length l.rest
