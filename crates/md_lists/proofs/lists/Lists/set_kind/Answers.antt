use Rattle.std.proofs.Common.{Some}
use Rattle.md_lists.specs.Links.{with_kind}
use Rattle.md_lists.specs.Kept.{store_of}
use Rattle.md_lists.proofs.Showing.{opened, live_items, shown, links_shown}
use Rattle.md_lists.proofs.KindChanges.{renames}
use Rattle.md_lists.proofs.lists.Lists.set_kind.Goals as goal

pub index_mut-requires : goal.index_mut-requires
index_mut-requires g c = (live_items c.self.inside c.args.self.now c.self.invariant c.self.view_is c.args.p c.requires).in_kinds

pub invariant_of-self : goal.invariant_of-self
invariant_of-self g c = (c.self.invariant.0, (with_kind c.args.self.now c.args.p (Some c.args.kind), renames (store_of c.self.inside) c.args.self.now (opened c.self.inside c.args.self.now c.self.invariant c.self.view_is) c.args.p c.args.kind c.requires))

pub returns-clause-kind : goal.returns-clause-kind
returns-clause-kind g c = shown _ _ (renames (store_of c.self.inside) c.args.self.now (opened c.self.inside c.args.self.now c.self.invariant c.self.view_is) c.args.p c.args.kind c.requires)

pub returns-clause-links : goal.returns-clause-links
returns-clause-links g c = links_shown _ _ (renames (store_of c.self.inside) c.args.self.now (opened c.self.inside c.args.self.now c.self.invariant c.self.view_is) c.args.p c.args.kind c.requires)
