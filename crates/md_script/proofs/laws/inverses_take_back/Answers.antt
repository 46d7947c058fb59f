use Rattle.md_script.proofs.BackLemmas.{inverse_back}
use Rattle.md_script.proofs.laws.inverses_take_back.Goals as goal

pub returns : goal.returns
returns c = λ limit g edit few is below. inverse_back limit g few is below edit
