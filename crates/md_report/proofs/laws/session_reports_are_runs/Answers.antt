use Rattle.md_report.proofs.Places.{session_reports_proof}
use Rattle.md_report.proofs.laws.session_reports_are_runs.Goals as goal

pub returns : goal.returns
returns c = session_reports_proof
