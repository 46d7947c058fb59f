use Rattle.md_report.proofs.Places.{graph_reports_proof}
use Rattle.md_report.proofs.laws.graph_reports_have_lines.Goals as goal

pub returns : goal.returns
returns c = graph_reports_proof
