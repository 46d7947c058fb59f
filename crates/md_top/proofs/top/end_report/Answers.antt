-- The files of the subject are loaded.
use Rattle.std.proofs.Common.{ap, option_map}
use Rattle.std.proofs.KnownBytes.{Keeps-refl}
use Rattle.md_top.specs.declared.request.Request.TheVariants.{Report}
use Rattle.md_top.specs.Subject.{subject_seen, subject_files}
use Rattle.md_top.specs.Loading.{subject_read}
use Rattle.md_top.proofs.EndsLemmas.{ends_of_command, ends_at_stop}
use Rattle.md_top.proofs.top.end_report.Goals as goal

pub returns-in_err-loaded-clause-ends : goal.returns-in_err-loaded-clause-ends
returns-in_err-loaded-clause-ends g c =
    ends_at_stop (Report (subject_seen c.args.subject)) _ _ c.in_err-loaded.ensures.stops _ (Keeps-refl _) _ c.from_residual.ensures.1

pub returns-clause-ends : goal.returns-clause-ends
returns-clause-ends g c =
    ends_of_command (Report (subject_seen c.args.subject)) (subject_files (subject_read c.in_ok-loaded.loaded)) (Report (subject_read c.in_ok-loaded.loaded))
    (ap (option_map Report) c.in_ok-loaded.ensures.filled) _ _ c.in_ok-loaded.ensures.loaded
    _ c.report_of_subject.ensures.ends
