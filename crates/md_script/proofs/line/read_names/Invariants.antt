use Rattle.std.proofs.Common.{length}
use Rattle.md_text.specs.Fields.{fields}
use Rattle.md_script.proofs.LineLemmas.{HasRead}
use Rattle.md_script.proofs.line.read_names.Given as goal

abbrev pub invariant-loop-number : goal.invariant-loop-number
invariant-loop-number l = HasRead (fields l.text) (fields l.rest) l.names

abbrev pub decreases-loop-number : goal.decreases-loop-number
decreases-loop-number l = length l.rest
