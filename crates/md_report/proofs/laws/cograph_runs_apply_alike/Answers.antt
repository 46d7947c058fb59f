use Rattle.md_report.proofs.Alike.{cograph_runs_proof}
use Rattle.md_report.proofs.laws.cograph_runs_apply_alike.Goals as goal

pub returns : goal.returns
returns c = record { apply_alike = cograph_runs_proof }
