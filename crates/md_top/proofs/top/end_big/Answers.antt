-- No file is loaded.
use Rattle.std.proofs.Common.{[], refl}
use Rattle.md_top.specs.declared.request.Request.TheVariants.{Big}
use Rattle.md_top.proofs.Loads.{no_loads}
use Rattle.md_top.proofs.EndsLemmas.{ends_of_command}
use Rattle.md_top.proofs.top.end_big.Goals as goal

pub returns-clause-ends : goal.returns-clause-ends
returns-clause-ends g c = ends_of_command (Big c.args.size) [] (Big c.args.size) refl _ _ (no_loads g.F.Files _) _ c.big.ensures.ends
