use Rattle.md_report.proofs.Fronts.{fronts_begin_proof}
use Rattle.md_report.proofs.laws.fronts_begin_reports.Goals as goal

pub returns : goal.returns
returns c = fronts_begin_proof
