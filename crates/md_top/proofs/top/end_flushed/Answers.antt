-- The flush leaves the ending, or makes a writing fault of a whole output.
use Rattle.std.proofs.Common.{rules}
use Rattle.md_top.proofs.Flushed.{ends_still, ends_unwritten}
use Rattle.md_top.proofs.top.end_flushed.Goals as goal

pub returns-then-is_err-clause-ends : goal.returns-then-is_err-clause-ends
returns-then-is_err-clause-ends g c =
    ends_unwritten _ _ _ _ _ _ c.flush-flush.ensures.keeps c.flush-flush.ensures.faults_never_fall _ c.end-ending.result c.flush-flush.result _
    (search rules) (search rules) c.end-ending.ensures.faults_never_fall c.flush-flush.ensures.failed c.end-ending.ensures.ends

pub returns-clause-ends : goal.returns-clause-ends
returns-clause-ends g c =
    ends_still _ _ _ _ _ _ c.flush-flush.ensures.keeps c.flush-flush.ensures.faults_never_fall _ c.end-ending.result _ c.end-ending.ensures.ends
