use Rattle.md_report.proofs.Places.{lines_lead_proof}
use Rattle.md_report.proofs.laws.lines_lead_if_first.Goals as goal

pub returns : goal.returns
returns c = lines_lead_proof
