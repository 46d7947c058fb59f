use Rattle.std.proofs.Common.{sym}
use Rattle.md_cotree.proofs.Ways.{parent_live}
use Rattle.md_cotree.proofs.adjacency.parent_of.Goals as goal

pub returns-clause-live : goal.returns-clause-live
returns-clause-live g c = parent_live c.args.lists.now c.requires.links c.args.place c.in-Some.parent (sym c.in-Some.ensures.parent)
