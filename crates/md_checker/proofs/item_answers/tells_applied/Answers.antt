use Rattle.std.proofs.Common.{◌*◌, List, [], ◌∷◌, refl, ◌∙◌, ap}
use Rattle.md_script.specs.declared.edit.Edit.{Edit}
use Rattle.md_script.specs.Pasts.{as_edit}
use Rattle.md_script.proofs.BackLemmas.{back_gives}
use Rattle.md_checker.specs.ReportLines.{plain_report_line}
use Rattle.md_checker.proofs.Judged.{if_true, if_false, told_yes, told_no, judged_edit, unjudged_edit}
use Rattle.md_checker.proofs.item_answers.tells_applied.Goals as goal

pub returns-then-is_true-clause-judged : goal.returns-then-is_true-clause-judged
returns-then-is_true-clause-judged g c =
    let led = c.apply.new.graph in
    let told = told_yes c.is_led_line-fit.result _ c.is_led_line-fit.ensures (c.is_true.ensures.0 c.if-is_true.true) in
    let left = c.push.ensures.items [] _ c.open_item.ensures.items ∙ ap (λ (l : List (List Edit)). (as_edit c.inverse-past.result ∷ []) ∷ l) c.reserve.ensures.items in
    if_true c.is_led_line-fit.result c.is_true.result _ c.is_true.ensures c.if-is_true.true
    (judged_edit (64 * g.row.W) c.args.mode c.args.graph.now c.args.history.now.items (plain_report_line c.args.line.now) led _ c.requires.fits c.requires.allowed c.args.edit.now c.requires.applies led _ c.apply.ensures c.inverse-past.ensures.back told.0 told.1 refl left)

pub returns-clause-judged : goal.returns-clause-judged
returns-clause-judged g c =
    let led = c.apply.new.graph in
    let same = back_gives c.args.graph.now led c.take_back.new.graph c.args.edit.now _ c.inverse-past.ensures.back c.apply.ensures c.take_back.ensures in
    if_false c.is_led_line-fit.result c.is_true.result _ c.is_true.ensures c.if-is_true.false
    (λ lacks. unjudged_edit (64 * g.row.W) c.args.mode c.args.graph.now c.args.history.now.items (plain_report_line c.args.line.now) c.take_back.new.graph _ c.requires.fits c.requires.allowed c.args.edit.now c.requires.applies led c.apply.ensures c.requires.other
    (told_no c.is_led_line-fit.result _ c.is_led_line-fit.ensures lacks) same c.reserve.ensures.items)
