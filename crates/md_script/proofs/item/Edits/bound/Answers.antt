use Rattle.std.proofs.Common.{sym, ◌∙◌, subst}
use Rattle.std.specs.List.{All}
use Rattle.md_script.specs.Edit.{HasNamesBelow}
use Rattle.md_script.proofs.item.Edits.bound.Goals as goal

pub returns-clause-least : goal.returns-clause-least
returns-clause-least c = λ limit all. c.edits_bound.ensures.least limit (subst (All (HasNamesBelow limit)) (sym c.self.view_is ∙ sym c.deref.ensures.value) all)
