use Rattle.std.proofs.Common.{◌∷◌, [], ◌∙◌, ◌*◌, List, Some, refl, sym, ap}
use Rattle.md_script.specs.declared.edit.Edit.{Edit}
use Rattle.md_script.specs.Pasts.{as_edit}
use Rattle.md_script.proofs.BackLemmas.{back_gives}
use Rattle.md_report.specs.Lines.{applied}
use Rattle.md_checker.proofs.Judged.{if_true, if_false, judged_edit}
use Rattle.md_checker.proofs.Taking.{text_done, text_told}
use Rattle.md_checker.proofs.item_texts.edit_by_text.Goals as goal

pub returns-then-is_true-clause-judged : goal.returns-then-is_true-clause-judged
returns-then-is_true-clause-judged g c =
    let led = c.apply.new.graph in
    let s = text_told c.is_word_and_state-fit.result c.args.mode led c.args.text.now (c.is_true.ensures.0 c.if-is_true.true) c.is_word_and_state-fit.ensures in
    let left = c.push.ensures.items [] _ c.open_item.ensures.items ∙ ap (λ (l : List (List Edit)). (as_edit c.inverse-past.result ∷ []) ∷ l) c.reserve.ensures.items in
    if_true c.is_word_and_state-fit.result c.is_true.result _ c.is_true.ensures c.if-is_true.true (
      applied (Some s.tree),
      s.spelled,
      judged_edit (64 * g.row.W) c.args.mode c.args.graph.now c.args.history.now.items (applied (Some s.tree)) led _ c.requires.fits c.requires.allowed c.args.edit.now (sym c.reason.ensures ∙ c.in_default.is) led _ c.apply.ensures
          c.inverse-past.ensures.back s.allowed (text_done c.args.mode led c.args.text.now c.requires.told s) refl left,
    )

pub returns-clause-judged : goal.returns-clause-judged
returns-clause-judged g c =
    let same = back_gives c.args.graph.now c.apply.new.graph c.take_back.new.graph c.args.edit.now _ c.inverse-past.ensures.back c.apply.ensures c.take_back.ensures in
    if_false c.is_word_and_state-fit.result c.is_true.result _ c.is_true.ensures c.if-is_true.false (λ lacks. (same, c.reserve.ensures.items))
