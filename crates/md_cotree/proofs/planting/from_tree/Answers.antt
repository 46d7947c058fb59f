use Rattle.std.proofs.Common.{ap}
use Rattle.md_tree.specs.Plain.{plain_option}
use Rattle.md_cotree.proofs.Planted.{short_outline}
use Rattle.md_cotree.proofs.planting.from_tree.Goals as goal

pub tree_outline-requires : goal.tree_outline-requires
tree_outline-requires c = record { short = short_outline _ (plain_option c.args.tree.now) (ap plain_option c.in-Some.is) c.requires.well_formed }
