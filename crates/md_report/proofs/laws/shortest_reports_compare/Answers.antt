use Rattle.md_report.proofs.Places.{shortest_reports_proof}
use Rattle.md_report.proofs.laws.shortest_reports_compare.Goals as goal

pub returns : goal.returns
returns c = shortest_reports_proof
