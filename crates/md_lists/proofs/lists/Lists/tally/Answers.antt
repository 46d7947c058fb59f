use Rattle.md_lists.proofs.Showing.{opened, live_items, tally_read}
use Rattle.md_lists.proofs.lists.Lists.tally.Goals as goal

pub index-requires : goal.index-requires
index-requires g c = (live_items c.self.inside c.args.self.now c.self.invariant c.self.view_is c.args.p c.requires).in_tallies

pub returns-clause-tally : goal.returns-clause-tally
returns-clause-tally g c = tally_read c.self.inside c.args.self.now c.self.invariant c.self.view_is c.args.p c.requires _ c.index.ensures

pub returns-clause-links : goal.returns-clause-links
returns-clause-links g c = (opened c.self.inside c.args.self.now c.self.invariant c.self.view_is).links
