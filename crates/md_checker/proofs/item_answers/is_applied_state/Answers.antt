use Rattle.std.proofs.Common.{◌∙◌, ap}
use Rattle.md_tree.specs.Plain.{plain_option}
use Rattle.md_report.specs.Lines.{plain_line}
use Rattle.md_tree.proofs.Stacking.{if_ok}
use Rattle.md_checker.specs.ReportLines.{plain_report_line}
use Rattle.md_checker.proofs.TreeLines.{applied_told}
use Rattle.md_checker.proofs.item_answers.is_applied_state.Goals as goal

pub returns-in-Plain-Applied : goal.returns-in-Plain-Applied
returns-in-Plain-Applied g c =
    let o = plain_option c.in-Plain-Applied.tree in
    let plain_is = c.in-Plain-Applied.is in
    let tree_is = c.in-Plain-Applied.field-0-is in
    let made = rw plain_is at tree_is in
    let is = ap plain_report_line plain_is ∙ ap plain_line made in
    if_ok c.is_tree_of_state.result (λ fit told. (
      λ yes. let both = told.0 yes in (both.0, (o, both.1, is)),
      λ has. told.1 (has.0, applied_told c.args.graph.now o (plain_report_line c.args.line.now) is has.1),
    )) c.is_tree_of_state.ensures
