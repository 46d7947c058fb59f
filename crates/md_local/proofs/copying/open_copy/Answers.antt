use Rattle.std.proofs.Common.{map, ap}
use Rattle.md_tree.specs.Plain.{plain}
use Rattle.md_local.proofs.copying.open_copy.Goals as goal

pub returns-clause-below : goal.returns-clause-below
returns-clause-below c = ap (map plain) c.in_ok-below.ensures.items
