use Rattle.std.proofs.Common.{sym, ◌∙◌, subst}
use Rattle.std.specs.List.{All}
use Rattle.md_script.specs.Items.{HasItemNamesBelow}
use Rattle.md_script.proofs.script.Script.bound.Goals as goal

pub returns-clause-least : goal.returns-clause-least
returns-clause-least c = λ limit all. c.items_bound.ensures.least limit (subst (All (HasItemNamesBelow limit)) (sym c.self.view_is ∙ sym c.deref.ensures.value) all)
