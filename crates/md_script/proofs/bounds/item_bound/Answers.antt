use Rattle.std.proofs.Common.{subst}
use Rattle.md_script.specs.Items.{HasItemNamesBelow}
use Rattle.md_script.proofs.bounds.item_bound.Goals as goal

pub returns-in-One-clause-least : goal.returns-in-One-clause-least
returns-in-One-clause-least c = λ limit below. c.edit_bound.ensures.least limit (subst (HasItemNamesBelow limit) c.in-One.is below)

pub returns-in-Group-clause-least : goal.returns-in-Group-clause-least
returns-in-Group-clause-least c = λ limit below. c.bound.ensures.least limit (subst (HasItemNamesBelow limit) c.in-Group.is below)
