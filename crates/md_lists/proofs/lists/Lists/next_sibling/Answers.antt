use Rattle.md_lists.proofs.Showing.{opened, live_items, next_read}
use Rattle.md_lists.proofs.lists.Lists.next_sibling.Goals as goal

pub index-requires : goal.index-requires
index-requires g c = (live_items c.self.inside c.args.self.now c.self.invariant c.self.view_is c.args.p c.requires).in_nexts

pub returns-clause-next : goal.returns-clause-next
returns-clause-next g c = next_read c.self.inside c.args.self.now c.self.invariant c.self.view_is c.args.p c.requires _ c.index.ensures

pub returns-clause-links : goal.returns-clause-links
returns-clause-links g c = (opened c.self.inside c.args.self.now c.self.invariant c.self.view_is).links
