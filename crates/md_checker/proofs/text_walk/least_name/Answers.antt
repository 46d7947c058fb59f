use Rattle.std.proofs.Common.{sym, ◌∙◌, subst}
use Rattle.md_tree.specs.Held.{AscendsIf}
use Rattle.md_tree.proofs.Holding.{first_least}
use Rattle.md_checker.proofs.text_walk.least_name.Goals as goal

pub returns-then-sorts : goal.returns-then-sorts
returns-then-sorts g c = first_least c.args.least.now c.requires.some (subst (λ b. AscendsIf b c.args.least.now) (sym c.sorts.ensures ∙ c.if-sorts.true) c.requires.ascends)
