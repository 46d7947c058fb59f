use Rattle.md_top.proofs.Fronts.{fronts_begin_answers_proof}
use Rattle.md_top.proofs.laws.fronts_begin_answers.Goals as goal

pub returns : goal.returns
returns c = fronts_begin_answers_proof
