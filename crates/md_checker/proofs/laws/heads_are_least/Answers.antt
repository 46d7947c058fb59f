use Rattle.md_checker.proofs.Heads.{least_proof}
use Rattle.md_checker.proofs.laws.heads_are_least.Goals as goal

pub returns : goal.returns
returns c = least_proof
