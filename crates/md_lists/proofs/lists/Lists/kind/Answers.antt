use Rattle.std.proofs.Common.{sym, ◌∙◌, ap, is_some}
use Rattle.std.proofs.lemmas.Bool.{false≢true}
use Rattle.md_lists.proofs.Showing.{opened, live_items, kind_read}
use Rattle.md_lists.proofs.lists.Lists.kind.Goals as goal

pub index-requires : goal.index-requires
index-requires g c = (live_items c.self.inside c.args.self.now c.self.invariant c.self.view_is c.args.p c.requires).in_kinds

pub unreachable-requires : goal.unreachable-requires
unreachable-requires g c = false≢true (sym (ap is_some (sym (kind_read c.self.inside c.args.self.now c.self.invariant c.self.view_is c.args.p c.requires _ c.index.ensures) ∙ c.in-None.is)) ∙ c.requires)

pub returns-clause-kind : goal.returns-clause-kind
returns-clause-kind g c = sym (kind_read c.self.inside c.args.self.now c.self.invariant c.self.view_is c.args.p c.requires _ c.index.ensures) ∙ c.in-Some.is

pub returns-clause-links : goal.returns-clause-links
returns-clause-links g c = (opened c.self.inside c.args.self.now c.self.invariant c.self.view_is).links
