use Rattle.std.proofs.Common.{◌≡◌, ◌*◌, refl, sym, ◌∙◌, ap}
use Rattle.md_script.specs.declared.item.Item.TheVariants.{One}
use Rattle.md_report.specs.Lines.{refused}
use Rattle.md_report.specs.Sessions.{is_applied}
use Rattle.md_checker.specs.ReportLines.{plain_report_line}
use Rattle.md_checker.proofs.Judged.{judged_refusal, reason_answers, judged_barred}
use Rattle.md_checker.proofs.item_answers.answers_edit.Goals as goal

pub returns-in-Some-clause-judged : goal.returns-in-Some-clause-judged
returns-in-Some-clause-judged g c =
    let limit = 64 * g.row.W in
    let before = c.args.graph.now in
    let items = c.args.history.now.items in
    let line = plain_report_line c.args.line.now in
    judged_refusal limit c.args.mode before items line before items c.requires.fits c.requires.allowed (One c.args.edit.now) (line ≡ refused c.in-Some.reason) c.is_refusal.result c.is_refusal.ensures
    (reason_answers limit c.args.mode before items line before items c.requires.fits c.requires.allowed c.args.edit.now c.in-Some.reason (sym c.reason.ensures ∙ c.in-Some.is))
    (λ e. ap is_applied e) refl refl

pub returns-in-Some-refused_bar-clause-judged : goal.returns-in-Some-refused_bar-clause-judged
returns-in-Some-refused_bar-clause-judged g c =
    let items = c.args.history.now.items in
    judged_barred (64 * g.row.W) c.args.mode c.args.graph.now items (plain_report_line c.args.line.now) c.bars_edit.new.graph items c.requires.fits c.requires.allowed c.args.edit.now (sym c.reason.ensures ∙ c.in_default.is) c.bars_edit.result
    c.in-Some-refused_bar.bar c.in-Some-refused_bar.ensures c.bars_edit.ensures.is c.bars_edit.ensures.stays refl
