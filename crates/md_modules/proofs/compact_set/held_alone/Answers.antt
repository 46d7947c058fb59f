use Rattle.std.proofs.Common.{sym}
use Rattle.md_modules.proofs.compact_set.held_alone.Goals as goal

pub returns-in-Some-clause-names : goal.returns-in-Some-clause-names
returns-in-Some-clause-names g c = sym c.in-Some.ensures.one
