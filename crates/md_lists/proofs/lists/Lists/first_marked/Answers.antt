use Rattle.std.proofs.Common.{ap}
use Rattle.md_lists.specs.declared.span.Span.{Span}
use Rattle.md_lists.proofs.Showing.{opened}
use Rattle.md_lists.proofs.lists.Lists.first_marked.Goals as goal

pub returns-clause-first : goal.returns-clause-first
returns-clause-first g c =
    let s = opened c.self.inside c.args.self.now c.self.invariant c.self.view_is in
    ap (λ (r : Span). r.first) s.marks

pub returns-clause-links : goal.returns-clause-links
returns-clause-links g c = (opened c.self.inside c.args.self.now c.self.invariant c.self.view_is).links
