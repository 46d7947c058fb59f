use Rattle.std.proofs.Common.{subst}
use Rattle.md_graph.specs.PlainGraph.{adjacent}
use Rattle.md_comparability.specs.Walking.{IsClassOrChosen}
use Rattle.md_checker.proofs.Leading.{whole_has_none, stopped_has_one}
use Rattle.md_checker.proofs.judgements.has_forcing_chain.Goals as goal

pub returns-in-Whole : goal.returns-in-Whole
returns-in-Whole g c =
    let e = adjacent c.args.graph.now in
    (λ t. cc, λ has. absurd (whole_has_none e c.in-Whole.field-0 (subst (IsClassOrChosen e) c.in-Whole.is c.in_ok-orient_classes.ensures.ending) has.0 has.1))

pub returns : goal.returns
returns g c =
    let e = adjacent c.args.graph.now in
    (λ t. stopped_has_one e c.in-Stopped.field-0 (subst (IsClassOrChosen e) c.in-Stopped.is c.in_ok-orient_classes.ensures.ending), λ has. cc)
