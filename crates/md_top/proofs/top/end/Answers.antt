-- Words in no form ask for no file, and nothing is put.
use Rattle.std.proofs.Common.{sym}
use Rattle.std.proofs.KnownBytes.{Keeps-refl}
use Rattle.md_top.proofs.EndsLemmas.{ends_at_usage}
use Rattle.md_top.proofs.top.end.Goals as goal

pub returns-in_default-clause-ends : goal.returns-in_default-clause-ends
returns-in_default-clause-ends g c = ends_at_usage _ (sym c.in_default.ensures.request) _ _ _ _ _ _ (Keeps-refl _)
