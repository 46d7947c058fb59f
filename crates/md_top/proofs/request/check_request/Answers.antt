-- The last word stands behind those of the subject.
use Rattle.std.proofs.Common.{◌∙◌, ap, option_map}
use Rattle.md_top.specs.Request.{seen}
use Rattle.md_top.proofs.RequestLemmas.{check_is, check_not}
use Rattle.md_top.proofs.request.check_request.Goals as goal

pub returns-in_err-subject-clause-request : goal.returns-in_err-subject-clause-request
returns-in_err-subject-clause-request c =
    ap (option_map seen) c.from_residual-in_err-subject.ensures
    ∙ check_not c.args.words.now c.in_ok-report.of_subject.now c.in_ok-report.report.now c.in_ok-report.ensures.cases.0 c.in_err-subject.ensures

pub returns-clause-request : goal.returns-clause-request
returns-clause-request c =
    check_is c.args.words.now c.in_ok-report.of_subject.now c.in_ok-report.report.now c.in_ok-report.ensures.cases.0
    c.in_ok-subject.subject c.as_str.result.now c.in_ok-subject.ensures c.as_str.ensures.value
