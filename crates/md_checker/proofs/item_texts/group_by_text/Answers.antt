use Rattle.std.proofs.Common.{◌∙◌, ◌*◌, ◌∷◌, List, Some, length, refl, ap, rules}
use Rattle.md_graph.proofs.Limits.{words_few}
use Rattle.md_script.specs.declared.edit.Edit.{Edit}
use Rattle.md_script.proofs.GroupLemmas.{kept_goes_back}
use Rattle.md_report.specs.ItemLines.{IsAllowed}
use Rattle.md_report.specs.Lines.{applied}
use Rattle.md_checker.proofs.Judged.{any_back, if_true, if_false, judged_group}
use Rattle.md_checker.proofs.Taking.{text_done, text_told}
use Rattle.md_checker.proofs.item_texts.group_by_text.Goals as goal

-- ---- all edits are applied

pub returns-then-is_true-clause-judged : goal.returns-then-is_true-clause-judged
returns-then-is_true-clause-judged g c =
    let limit = 64 * g.row.W in
    let before = c.args.graph.now in
    let led = c.try_edits.new.graph in
    let so = c.in-All.ensures.tried c.reserve.new.self.items c.open_item.ensures.items in
    let goes =
    kept_goes_back limit (IsAllowed c.args.mode) before c.try_edits.new.graph c.args.edits.now so.0 (length c.args.edits.now) (words_few g.row.W c.vertices-vertices.ensures.limit) c.vertices-vertices.ensures.graph c.vertices-vertices.ensures.below
    c.requires.allowed c.requires.names so.1 in
    let s = text_told c.is_word_and_state-fit.result c.args.mode led c.args.text.now (c.is_true.ensures.0 c.if-is_true.true) c.is_word_and_state-fit.ensures in
    if_true c.is_word_and_state-fit.result c.is_true.result _ c.is_true.ensures c.if-is_true.true (
      applied (Some s.tree),
      s.spelled,
      judged_group limit c.args.mode before c.args.history.now.items (applied (Some s.tree)) led _ c.requires.fits c.requires.allowed c.args.edits.now led so.0 so.1 goes so.3 (text_done c.args.mode led c.args.text.now c.requires.told s) refl
          (so.2 ∙ ap (λ (l : List (List Edit)). so.0 ∷ l) c.reserve.ensures.items),
    )

pub take_item_back-requires : goal.take_item_back-requires
take_item_back-requires g c =
    let limit = 64 * g.row.W in
    let before = c.args.graph.now in
    let so = c.in-All.ensures.tried c.reserve.new.self.items c.open_item.ensures.items in
    let goes =
    kept_goes_back limit (IsAllowed c.args.mode) before c.try_edits.new.graph c.args.edits.now so.0 (length c.args.edits.now) (words_few g.row.W c.vertices-vertices.ensures.limit) c.vertices-vertices.ensures.graph c.vertices-vertices.ensures.below
    c.requires.allowed c.requires.names so.1 in
    (search rules, (search rules, (so.0, c.reserve.new.self.items, so.2, any_back limit (IsAllowed c.args.mode) c.try_edits.new.graph so.0 goes.may)))

pub returns-else-is_true-clause-judged : goal.returns-else-is_true-clause-judged
returns-else-is_true-clause-judged g c =
    let limit = 64 * g.row.W in
    let before = c.args.graph.now in
    let others = c.reserve.new.self.items in
    let so = c.in-All.ensures.tried others c.open_item.ensures.items in
    let goes =
    kept_goes_back limit (IsAllowed c.args.mode) before c.try_edits.new.graph c.args.edits.now so.0 (length c.args.edits.now) (words_few g.row.W c.vertices-vertices.ensures.limit) c.vertices-vertices.ensures.graph c.vertices-vertices.ensures.below
    c.requires.allowed c.requires.names so.1 in
    if_false c.is_word_and_state-fit.result c.is_true.result _ c.is_true.ensures c.if-is_true.false
    (λ lacks. (c.take_item_back.ensures.graph so.0 others so.2 ∙ goes.leads, c.take_item_back.ensures.items so.0 others so.2 ∙ c.reserve.ensures.items))

pub returns-else-is_true-clause-stays : goal.returns-else-is_true-clause-stays
returns-else-is_true-clause-stays g c = λ fails.
    let limit = 64 * g.row.W in
    let before = c.args.graph.now in
    let so = c.in-All.ensures.tried c.reserve.new.self.items c.open_item.ensures.items in
    let goes =
    kept_goes_back limit (IsAllowed c.args.mode) before c.try_edits.new.graph c.args.edits.now so.0 (length c.args.edits.now) (words_few g.row.W c.vertices-vertices.ensures.limit) c.vertices-vertices.ensures.graph c.vertices-vertices.ensures.below
    c.requires.allowed c.requires.names so.1 in
    c.take_item_back.ensures.graph so.0 c.reserve.new.self.items so.2 ∙ goes.leads

-- ---- a reason speaks against one

pub take_item_back-requires-in-Refused : goal.take_item_back-requires-in-Refused
take_item_back-requires-in-Refused g c =
    let limit = 64 * g.row.W in
    let before = c.args.graph.now in
    let so = c.in-Refused.ensures.tried c.reserve.new.self.items c.open_item.ensures.items in
    let goes =
    kept_goes_back limit (IsAllowed c.args.mode) before c.try_edits.new.graph c.args.edits.now so.0 _ (words_few g.row.W c.vertices-vertices.ensures.limit) c.vertices-vertices.ensures.graph c.vertices-vertices.ensures.below
    c.requires.allowed c.requires.names so.2 in
    (search rules, (search rules, (so.0, c.reserve.new.self.items, so.3, any_back limit (IsAllowed c.args.mode) c.try_edits.new.graph so.0 goes.may)))

pub returns-in-Refused-clause-judged : goal.returns-in-Refused-clause-judged
returns-in-Refused-clause-judged g c =
    let limit = 64 * g.row.W in
    let before = c.args.graph.now in
    let others = c.reserve.new.self.items in
    let so = c.in-Refused.ensures.tried others c.open_item.ensures.items in
    let goes =
    kept_goes_back limit (IsAllowed c.args.mode) before c.try_edits.new.graph c.args.edits.now so.0 _ (words_few g.row.W c.vertices-vertices.ensures.limit) c.vertices-vertices.ensures.graph c.vertices-vertices.ensures.below
    c.requires.allowed c.requires.names so.2 in
    (c.take_item_back-in-Refused.ensures.graph so.0 others so.3 ∙ goes.leads, c.take_item_back-in-Refused.ensures.items so.0 others so.3 ∙ c.reserve.ensures.items)

-- ---- no state may stand behind one

pub take_item_back-requires-in-Barred : goal.take_item_back-requires-in-Barred
take_item_back-requires-in-Barred g c =
    let limit = 64 * g.row.W in
    let before = c.args.graph.now in
    let so = c.in-Barred.ensures.tried c.reserve.new.self.items c.open_item.ensures.items in
    let goes =
    kept_goes_back limit (IsAllowed c.args.mode) before c.try_edits.new.graph c.args.edits.now so.0 _ (words_few g.row.W c.vertices-vertices.ensures.limit) c.vertices-vertices.ensures.graph c.vertices-vertices.ensures.below
    c.requires.allowed c.requires.names so.2 in
    (search rules, (search rules, (so.0, c.reserve.new.self.items, so.3, any_back limit (IsAllowed c.args.mode) c.try_edits.new.graph so.0 goes.may)))

pub returns-in-Barred-clause-judged : goal.returns-in-Barred-clause-judged
returns-in-Barred-clause-judged g c =
    let limit = 64 * g.row.W in
    let before = c.args.graph.now in
    let others = c.reserve.new.self.items in
    let so = c.in-Barred.ensures.tried others c.open_item.ensures.items in
    let goes =
    kept_goes_back limit (IsAllowed c.args.mode) before c.try_edits.new.graph c.args.edits.now so.0 _ (words_few g.row.W c.vertices-vertices.ensures.limit) c.vertices-vertices.ensures.graph c.vertices-vertices.ensures.below
    c.requires.allowed c.requires.names so.2 in
    (c.take_item_back-in-Barred.ensures.graph so.0 others so.3 ∙ goes.leads, c.take_item_back-in-Barred.ensures.items so.0 others so.3 ∙ c.reserve.ensures.items)
