use Rattle.std.specs.Prelude.{IfOk}
use Rattle.std.proofs.Common.{◌∙◌, ap, subst}
use Rattle.md_graph.specs.PlainGraph.{PlainGraph, adjacent}
use Rattle.md_tree.specs.Plain.{plain_option}
use Rattle.md_tree.specs.StrongTrees.{IsTree}
use Rattle.md_report.specs.Sessions.{state_after}
use Rattle.md_session_tests.proofs.clients.tree_behind.Goals as goal

pub returns : goal.returns
returns g c =
    let edit = c.args.edit.now in
    let next = c.in_ok-apply.ensures.step.next_is ∙ ap (λ (h : PlainGraph). state_after h edit) c.new-session.ensures in
    record { tree = subst (λ (h : PlainGraph). IfOk c.tree.result (λ tree. IsTree (adjacent h) h.vertices (plain_option tree))) next c.tree.ensures }
