use Rattle.std.proofs.Common.{◌≡◌, ◌*◌, ◌+◌, ◌↔◌, Some, IsTrue, List, ◌∷◌, length, refl, sym, ◌∙◌, ap, subst, rules}
use Rattle.md_graph.specs.PlainGraph.{PlainGraph}
use Rattle.md_graph.proofs.Limits.{words_few}
use Rattle.md_bar_tree.specs.declared.Bar.{Bar}
use Rattle.md_script.specs.declared.edit.Edit.{Edit}
use Rattle.md_script.specs.Edit.{HasNamesBelow, reason_of, after}
use Rattle.md_script.specs.Pasts.{taken_back, MayBack, AnyGraph}
use Rattle.md_script.proofs.ChangeLemmas.{holds_at}
use Rattle.md_script.proofs.GroupLemmas.{kept_goes_back, read_within}
use Rattle.md_report.specs.ItemLines.{IsAllowed, IsBarred}
use Rattle.md_report.specs.Lines.{group_refused_bar}
use Rattle.md_checker.specs.ReportLines.{plain_report_line}
use Rattle.md_checker.proofs.Judged.{any_back, if_true, if_false, told_yes, told_no, judged_group, unjudged_group, judged_stop, judged_bar}
use Rattle.md_checker.proofs.item_answers.answers_group.Goals as goal

-- ---- all edits are applied

pub returns-then-is_true-clause-judged : goal.returns-then-is_true-clause-judged
returns-then-is_true-clause-judged g c =
    let limit = 64 * g.row.W in
    let before = c.args.graph.now in
    let so = c.in-All.ensures.tried c.reserve.new.self.items c.open_item.ensures.items in
    let goes =
    kept_goes_back limit (IsAllowed c.args.mode) before c.try_edits.new.graph c.args.edits.now so.0 (length c.args.edits.now) (words_few g.row.W c.vertices-vertices.ensures.limit) c.vertices-vertices.ensures.graph c.vertices-vertices.ensures.below
    c.requires.allowed c.requires.names so.1 in
    let done = told_yes c.is_done_line-fit.result _ c.is_done_line-fit.ensures (c.is_true.ensures.0 c.if-is_true.true) in
    if_true c.is_done_line-fit.result c.is_true.result _ c.is_true.ensures c.if-is_true.true
    (judged_group limit c.args.mode before c.args.history.now.items (plain_report_line c.args.line.now) c.try_edits.new.graph _ c.requires.fits c.requires.allowed c.args.edits.now c.try_edits.new.graph so.0 so.1 goes so.3 done refl
    (so.2 ∙ ap (λ (l : List (List Edit)). so.0 ∷ l) c.reserve.ensures.items))

pub take_item_back-requires : goal.take_item_back-requires
take_item_back-requires g c =
    let limit = 64 * g.row.W in
    let so = c.in-All.ensures.tried c.reserve.new.self.items c.open_item.ensures.items in
    let goes =
    kept_goes_back limit (IsAllowed c.args.mode) c.args.graph.now c.try_edits.new.graph c.args.edits.now so.0 (length c.args.edits.now) (words_few g.row.W c.vertices-vertices.ensures.limit) c.vertices-vertices.ensures.graph
    c.vertices-vertices.ensures.below c.requires.allowed c.requires.names so.1 in
    (search rules, (search rules, (so.0, c.reserve.new.self.items, so.2, any_back limit (IsAllowed c.args.mode) c.try_edits.new.graph so.0 goes.may)))

pub returns-else-is_true-clause-judged : goal.returns-else-is_true-clause-judged
returns-else-is_true-clause-judged g c =
    let limit = 64 * g.row.W in
    let before = c.args.graph.now in
    let others = c.reserve.new.self.items in
    let so = c.in-All.ensures.tried others c.open_item.ensures.items in
    let goes =
    kept_goes_back limit (IsAllowed c.args.mode) before c.try_edits.new.graph c.args.edits.now so.0 (length c.args.edits.now) (words_few g.row.W c.vertices-vertices.ensures.limit) c.vertices-vertices.ensures.graph c.vertices-vertices.ensures.below
    c.requires.allowed c.requires.names so.1 in
    if_false c.is_done_line-fit.result c.is_true.result _ c.is_true.ensures c.if-is_true.false
    (λ lacks. unjudged_group limit c.args.mode before c.args.history.now.items (plain_report_line c.args.line.now) c.take_item_back.new.graph _ c.requires.fits c.requires.allowed c.args.edits.now c.try_edits.new.graph so.0 so.1
    (told_no c.is_done_line-fit.result _ c.is_done_line-fit.ensures lacks) (c.take_item_back.ensures.graph so.0 others so.2 ∙ goes.leads) (c.take_item_back.ensures.items so.0 others so.2 ∙ c.reserve.ensures.items))

pub returns-else-is_true-clause-stays : goal.returns-else-is_true-clause-stays
returns-else-is_true-clause-stays g c = λ fails.
    let so = c.in-All.ensures.tried c.reserve.new.self.items c.open_item.ensures.items in
    let goes =
    kept_goes_back (64 * g.row.W) (IsAllowed c.args.mode) c.args.graph.now c.try_edits.new.graph c.args.edits.now so.0 (length c.args.edits.now) (words_few g.row.W c.vertices-vertices.ensures.limit) c.vertices-vertices.ensures.graph
    c.vertices-vertices.ensures.below c.requires.allowed c.requires.names so.1 in
    c.take_item_back.ensures.graph so.0 c.reserve.new.self.items so.2 ∙ goes.leads

-- ---- a reason speaks against one

pub take_item_back-requires-in-Refused : goal.take_item_back-requires-in-Refused
take_item_back-requires-in-Refused g c =
    let limit = 64 * g.row.W in
    let so = c.in-Refused.ensures.tried c.reserve.new.self.items c.open_item.ensures.items in
    let goes =
    kept_goes_back limit (IsAllowed c.args.mode) c.args.graph.now c.try_edits.new.graph c.args.edits.now so.0 c.in-Refused.i (words_few g.row.W c.vertices-vertices.ensures.limit) c.vertices-vertices.ensures.graph
    c.vertices-vertices.ensures.below c.requires.allowed c.requires.names so.2 in
    (search rules, (search rules, (so.0, c.reserve.new.self.items, so.3, any_back limit (IsAllowed c.args.mode) c.try_edits.new.graph so.0 goes.may)))

pub returns-in-Refused-clause-judged : goal.returns-in-Refused-clause-judged
returns-in-Refused-clause-judged g c =
    let limit = 64 * g.row.W in
    let before = c.args.graph.now in
    let others = c.reserve.new.self.items in
    let so = c.in-Refused.ensures.tried others c.open_item.ensures.items in
    let goes =
    kept_goes_back limit (IsAllowed c.args.mode) before c.try_edits.new.graph c.args.edits.now so.0 c.in-Refused.i (words_few g.row.W c.vertices-vertices.ensures.limit) c.vertices-vertices.ensures.graph c.vertices-vertices.ensures.below
    c.requires.allowed c.requires.names so.2 in
    judged_stop limit c.args.mode before c.args.history.now.items (plain_report_line c.args.line.now) c.take_item_back-in-Refused.new.graph _ c.requires.fits c.requires.allowed c.args.edits.now c.is_group_refusal.result c.try_edits.new.graph so.0
    c.in-Refused.i so.1 c.in-Refused.reason so.2 so.4 so.5 c.is_group_refusal.ensures (c.take_item_back-in-Refused.ensures.graph so.0 others so.3 ∙ goes.leads)
    (c.take_item_back-in-Refused.ensures.items so.0 others so.3 ∙ c.reserve.ensures.items)

-- ---- no state may stand behind one

pub get-requires : goal.get-requires
get-requires g c =
    let so = c.in-Barred.ensures.tried c.reserve.new.self.items c.open_item.ensures.items in read_within c.args.edits.now c.in-Barred.i so.1 so.4

pub is_group_barred-fit-requires : goal.is_group_barred-fit-requires
is_group_barred-fit-requires g c =
    let so = c.in-Barred.ensures.tried c.reserve.new.self.items c.open_item.ensures.items in
    let both : Some so.1 ≡ Some c.get.result.now = sym so.4 ∙ c.get.ensures.edit in
    let same : so.1 ≡ c.get.result.now = cc in (
      search rules,
      (
        ap (λ (e : Edit). reason_of c.try_edits.new.graph e) (sym same) ∙ so.5,
        holds_at (HasNamesBelow (64 * g.row.W)) c.args.edits.now c.in-Barred.i c.get.result.now c.get.ensures.edit c.requires.names,
      ),
    )

pub take_item_back-requires-in-Barred : goal.take_item_back-requires-in-Barred
take_item_back-requires-in-Barred g c =
    let limit = 64 * g.row.W in
    let so = c.in-Barred.ensures.tried c.reserve.new.self.items c.open_item.ensures.items in
    let goes =
    kept_goes_back limit (IsAllowed c.args.mode) c.args.graph.now c.try_edits.new.graph c.args.edits.now so.0 c.in-Barred.i (words_few g.row.W c.vertices-vertices.ensures.limit) c.vertices-vertices.ensures.graph
    c.vertices-vertices.ensures.below c.requires.allowed c.requires.names so.2 in (
      search rules,
      (
        search rules,
        (
          so.0,
          c.reserve.new.self.items,
          so.3,
          subst (λ (k : PlainGraph). MayBack limit AnyGraph k so.0) (sym c.is_group_barred-fit.ensures.stays) (any_back limit (IsAllowed c.args.mode) c.try_edits.new.graph so.0 goes.may),
        ),
      ),
    )

pub returns-in-Barred-clause-judged : goal.returns-in-Barred-clause-judged
returns-in-Barred-clause-judged g c =
    let limit = 64 * g.row.W in
    let before = c.args.graph.now in
    let others = c.reserve.new.self.items in
    let line = plain_report_line c.args.line.now in
    let so = c.in-Barred.ensures.tried others c.open_item.ensures.items in
    let both : Some so.1 ≡ Some c.get.result.now = sym so.4 ∙ c.get.ensures.edit in
    let same : so.1 ≡ c.get.result.now = cc in
    let goes =
    kept_goes_back limit (IsAllowed c.args.mode) before c.try_edits.new.graph c.args.edits.now so.0 c.in-Barred.i (words_few g.row.W c.vertices-vertices.ensures.limit) c.vertices-vertices.ensures.graph c.vertices-vertices.ensures.below
    c.requires.allowed c.requires.names so.2 in
    let told =
    subst (λ (e : Edit). IsTrue c.is_group_barred-fit.result ↔ ((bar : Bar) × IsBarred c.args.mode (after c.try_edits.new.graph e) bar × (line ≡ group_refused_bar (c.in-Barred.i + 1) bar))) (sym same) c.is_group_barred-fit.ensures.is in
    judged_bar limit c.args.mode before c.args.history.now.items line c.take_item_back-in-Barred.new.graph _ c.requires.fits c.requires.allowed c.args.edits.now c.is_group_barred-fit.result c.try_edits.new.graph so.0 c.in-Barred.i so.1 so.2 so.4
    so.5 so.6 told
    (c.take_item_back-in-Barred.ensures.graph so.0 others so.3 ∙ ap (λ (k : PlainGraph). taken_back k so.0) c.is_group_barred-fit.ensures.stays ∙ goes.leads)
    (c.take_item_back-in-Barred.ensures.items so.0 others so.3 ∙ c.reserve.ensures.items)
