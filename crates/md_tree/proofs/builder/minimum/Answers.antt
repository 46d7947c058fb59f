use Rattle.std.proofs.Common.{subst}
use Rattle.md_tree.specs.Held.{AscendsIf}
use Rattle.md_tree.proofs.Holding.{first_least}
use Rattle.md_tree.proofs.builder.minimum.Goals as goal

pub returns-then-ascending : goal.returns-then-ascending
returns-then-ascending c = first_least c.args.numbers.now c.requires.some (subst (λ b. AscendsIf b c.args.numbers.now) c.if-ascending.true c.requires.ascends)
