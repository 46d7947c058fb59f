use Rattle.std.proofs.Common.{vec_len, ◌+◌, ◌-◌, ◌∙◌, ap}
use Rattle.md_lists.specs.declared.TheConstants.{PLACES}
use Rattle.md_lists.proofs.Showing.{opened}
use Rattle.md_lists.proofs.lists.Lists.spare.Goals as goal

pub returns-clause-spare : goal.returns-clause-spare
returns-clause-spare c =
    let s = opened c.self.inside c.args.self.now c.self.invariant c.self.view_is in
    (λ i. c.len.ensures i + (PLACES - c.len-2.ensures i)) ∙ ap (λ n. n + (PLACES - vec_len c.self.inside.kinds)) c.self.inside.free.ok.0 ∙ s.free_count

pub returns-clause-links : goal.returns-clause-links
returns-clause-links c = (opened c.self.inside c.args.self.now c.self.invariant c.self.view_is).links
