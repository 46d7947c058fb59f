use Rattle.std.proofs.Common.{map}
use Rattle.md_tree.specs.Plain.{plain}
use Rattle.md_tree.proofs.Plain.{plain-node}
use Rattle.md_local.proofs.merging.join.Goals as goal

pub returns : goal.returns
returns c = (map plain c.in_ok-list.list.items, c.in_ok-list.ensures, plain-node c.args.kind _ _)
