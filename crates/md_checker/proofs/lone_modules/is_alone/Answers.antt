use Rattle.std.proofs.Common.{refl}
use Rattle.md_graph.proofs.SetLemmas.{clash}
use Rattle.md_checker.proofs.Trivial.{two_not_single}
use Rattle.md_checker.proofs.lone_modules.is_alone.Goals as goal

pub returns-in-None : goal.returns-in-None
returns-in-None g c = (λ f. clash f refl, λ single. absurd (two_not_single c.args.set.now c.in-None.ensures.more single))
