use Rattle.std.proofs.Common.{◌+◌, ◌≤◌, length}
use Rattle.md_report.specs.Protocols.{fed_by}
use Rattle.md_checker.specs.Answers.{HaveComeBy}
use Rattle.md_checker.proofs.line_judge.judge.Given as goal

abbrev pub invariant-loop-rest : goal.invariant-loop-rest
invariant-loop-rest g l =
    let j = g.J.LineJudge in
    record {
      come : HaveComeBy j.may_come j.next (fed_by j.line_text) (j.place l.fn.line_judge) l.report (j.place l.line_judge) l.rest l.line;
      room : l.line + length l.rest ≤ length l.report + 1;
    }

abbrev pub decreases-loop-rest : goal.decreases-loop-rest
decreases-loop-rest g l = length l.rest
