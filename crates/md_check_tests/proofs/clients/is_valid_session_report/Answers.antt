use Rattle.std.proofs.Common.{◌≡◌, true, false, refl, subst}
use Rattle.md_report.specs.Places.{before_session}
use Rattle.md_checker.specs.Answers.{IsCheckAnswer}
use Rattle.md_check_tests.proofs.clients.is_valid_session_report.Goals as goal

pub returns-in-Accepted-clause-valid : goal.returns-in-Accepted-clause-valid
returns-in-Accepted-clause-valid c =
    let told = c.in_ok-answer.ensures.answer in
    let is = subst (IsCheckAnswer (before_session c.args.mode told.0 told.1) c.args.report.now) c.in-Accepted.is told.4 in
    (told.0, told.1, told.2, told.3, (λ t. is, λ report. refl))

pub returns-in_default-clause-valid : goal.returns-in_default-clause-valid
returns-in_default-clause-valid c =
    let told = c.in_ok-answer.ensures.answer in
    let is = subst (IsCheckAnswer (before_session c.args.mode told.0 told.1) c.args.report.now) c.in_default.is told.4 in
    (told.0, told.1, told.2, told.3, (λ f. absurd (let no : false ≡ true = f in cc), λ report. absurd (is.0 report)))
