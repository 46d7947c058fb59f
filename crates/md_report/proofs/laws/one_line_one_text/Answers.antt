use Rattle.md_report.proofs.OneLine.{one_line_proof}
use Rattle.md_report.proofs.laws.one_line_one_text.Goals as goal

pub returns : goal.returns
returns c = one_line_proof
