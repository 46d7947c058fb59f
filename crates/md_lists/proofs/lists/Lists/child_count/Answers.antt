use Rattle.std.proofs.Common.{ap}
use Rattle.md_lists.specs.declared.span.Span.{Span}
use Rattle.md_lists.proofs.Showing.{opened, live_items, span_read}
use Rattle.md_lists.proofs.lists.Lists.child_count.Goals as goal

pub index-requires : goal.index-requires
index-requires g c = (live_items c.self.inside c.args.self.now c.self.invariant c.self.view_is c.args.p c.requires).in_spans

pub returns-clause-count : goal.returns-clause-count
returns-clause-count g c = ap (λ (r : Span). r.count) (span_read c.self.inside c.args.self.now c.self.invariant c.self.view_is c.args.p c.requires _ c.index.ensures)

pub returns-clause-links : goal.returns-clause-links
returns-clause-links g c = (opened c.self.inside c.args.self.now c.self.invariant c.self.view_is).links
