use Rattle.std.proofs.Common.{◌∙◌, ap}
use Rattle.md_tree.specs.Plain.{plain_option}
use Rattle.md_report.specs.Lines.{plain_line}
use Rattle.md_tree.proofs.Stacking.{if_ok}
use Rattle.md_checker.specs.ReportLines.{plain_report_line}
use Rattle.md_checker.proofs.TreeLines.{tree_told}
use Rattle.md_checker.proofs.judgements.is_tree_line.Goals as goal

pub returns-in-Plain-Tree : goal.returns-in-Plain-Tree
returns-in-Plain-Tree g c =
    let o = plain_option c.in-Plain-Tree.tree in
    let plain_is = c.in-Plain-Tree.is in
    let tree_is = c.in-Plain-Tree.field-0-is in
    let made = rw plain_is at tree_is in
    let is = ap plain_report_line plain_is ∙ ap plain_line made in
    if_ok c.fits.result (λ fit told. (
      λ yes. (o, told.0 yes, is),
      λ has. told.1 (tree_told c.args.graph.now o (plain_report_line c.args.line.now) is has),
    )) c.fits.ensures
