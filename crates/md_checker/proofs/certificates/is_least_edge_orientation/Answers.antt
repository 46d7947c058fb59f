use Rattle.std.proofs.Common.{◌≡◌, IsTrue, subst, ◌↔◌, length}
use Rattle.md_graph.specs.PlainGraph.{adjacent}
use Rattle.md_comparability.specs.Listed.{arcs_below}
use Rattle.md_comparability.specs.Walking.{IsClassOrChosen}
use Rattle.md_checker.proofs.Ordering.{refused, agreed}
use Rattle.md_checker.proofs.InStep.{stopped_has_none, whole_listed}
use Rattle.md_checker.proofs.certificates.is_least_edge_orientation.Goals as goal

pub returns-in-Stopped : goal.returns-in-Stopped
returns-in-Stopped g c =
    refused (stopped_has_none c.vertices-vertices.ensures.graph c.in-Stopped.field-0 (subst (IsClassOrChosen (adjacent c.args.graph.now)) c.in-Stopped.is c.in_ok-orient_classes.ensures.ending) c.args.arcs.now)

pub returns : goal.returns
returns g c =
    agreed (subst (λ l. IsTrue c.are_listed.result ↔ (l ≡ arcs_below c.in-Whole.chosen (length c.in-Whole.chosen))) c.as_slice.ensures c.are_listed.ensures)
    (whole_listed c.vertices-vertices.ensures.graph c.in-Whole.chosen (subst (IsClassOrChosen (adjacent c.args.graph.now)) c.in-Whole.is c.in_ok-orient_classes.ensures.ending) c.args.arcs.now)
