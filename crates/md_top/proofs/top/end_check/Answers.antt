-- The files of the subject are loaded, and then the report.
use Rattle.std.proofs.Common.{[], ◌∷◌, ◌++◌}
use Rattle.std.proofs.KnownBytes.{Keeps-refl}
use Rattle.md_top.specs.declared.request.Request.TheVariants.{Check}
use Rattle.md_top.specs.Subject.{subject_seen, subject_files}
use Rattle.md_top.specs.Loading.{subject_read}
use Rattle.md_top.proofs.Loads.{stops_before, loads_behind, stops_behind}
use Rattle.md_top.proofs.RequestLemmas.{check_filled}
use Rattle.md_top.proofs.EndsLemmas.{ends_of_command, ends_at_stop}
use Rattle.md_top.proofs.top.end_check.Goals as goal

pub returns-in_err-loaded-clause-ends : goal.returns-in_err-loaded-clause-ends
returns-in_err-loaded-clause-ends g c =
    ends_at_stop (Check (subject_seen c.args.subject) c.args.report.now) _ _
    (stops_before _ _ (c.args.report.now ∷ []) _ c.in_err-loaded.ensures.stops) _ (Keeps-refl _) _ c.from_residual.ensures.1

pub returns-in_err-report_file-clause-ends : goal.returns-in_err-report_file-clause-ends
returns-in_err-report_file-clause-ends g c =
    ends_at_stop (Check (subject_seen c.args.subject) c.args.report.now) _ _
    (stops_behind g.F.Files _ _ _ c.load_subject.ensures.told _ _ _ c.in_ok-loaded.ensures.loaded _ c.in_err-report_file.ensures.stops)
    _ (Keeps-refl _) _ c.from_residual-in_err-report_file.ensures.1

pub returns-clause-ends : goal.returns-clause-ends
returns-clause-ends g c =
    let filled = subject_read c.in_ok-loaded.loaded in
    ends_of_command (Check (subject_seen c.args.subject) c.args.report.now) (subject_files filled ++ c.in_ok-report_file.report_file.items ∷ [])
    (Check filled c.in_ok-report_file.report_file.items)
    (check_filled _ filled c.args.report.now _ (subject_files filled) c.in_ok-loaded.ensures.filled) _ _
    (loads_behind g.F.Files _ _ _ c.load_subject.ensures.told _ _ _ c.in_ok-loaded.ensures.loaded _ c.in_ok-report_file.ensures.loaded)
    _ (rw c.deref.ensures.value at c.check_of_subject.ensures.ends)
