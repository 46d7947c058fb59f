use Rattle.std.proofs.Common.{rules, subst}
use Rattle.md_report.specs.Laws.{IsSound}
use Rattle.md_report.specs.Places.{Place}
use Rattle.md_report.proofs.Places.{can_end}
use Rattle.md_checker.specs.Answers.{IsCheckAnswer}
use Rattle.md_checker.proofs.check.check_graphs.Goals as goal

pub judge-requires : goal.judge-requires
judge-requires c = let sound : IsSound c.in_ok-checker.checker = search rules in record { can_end = can_end c.in_ok-checker.checker sound }

pub returns-clause-answer : goal.returns-clause-answer
returns-clause-answer c =
    let first = c.in_ok-checker.ensures.first in
    (first.0, first.1, subst (λ (p : Place). IsCheckAnswer p c.args.report.now c.in_ok-judge.field-0) first.2 c.in_ok-judge.ensures.answer)
