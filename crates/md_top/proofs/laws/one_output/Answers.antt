use Rattle.md_top.proofs.OneOutput.{one_output}
use Rattle.md_top.proofs.laws.one_output.Goals as goal

pub returns : goal.returns
returns c = one_output
