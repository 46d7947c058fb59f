use Rattle.md_graph6.proofs.LimitLemmas.{limits_agree}
use Rattle.md_graph6.proofs.laws.limits_agree.Goals as goal

pub returns : goal.returns
returns c = limits_agree
