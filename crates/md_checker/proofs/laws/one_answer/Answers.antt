use Rattle.md_checker.proofs.OneAnswer.{one_answer_proof}
use Rattle.md_checker.proofs.laws.one_answer.Goals as goal

pub returns : goal.returns
returns c = one_answer_proof
