use Rattle.std.proofs.Common.{◌∙◌, ap, inr}
use Rattle.md_tree.specs.Plain.{plain_option}
use Rattle.md_report.specs.Lines.{plain_line}
use Rattle.md_tree.proofs.Stacking.{if_ok}
use Rattle.md_checker.specs.ReportLines.{plain_report_line}
use Rattle.md_checker.proofs.TreeLines.{class_opening_told}
use Rattle.md_checker.proofs.judgements.is_class_opening.Goals as goal

pub returns-in-Plain-Tree : goal.returns-in-Plain-Tree
returns-in-Plain-Tree g c =
    let o = plain_option c.in-Plain-Tree.tree in
    let plain_is = c.in-Plain-Tree.is in
    let tree_is = c.in-Plain-Tree.field-0-is in
    let made = rw plain_is at tree_is in
    let is = ap plain_report_line plain_is ∙ ap plain_line made in
    if_ok c.is_tree_of_state.result (λ fit told. (
      λ yes. let both = told.0 yes in inr (both.0, (o, both.1, is)),
      λ has. told.1 (class_opening_told c.args.graph.now o (plain_report_line c.args.line.now) c.args.class is has),
    )) c.is_tree_of_state.ensures
