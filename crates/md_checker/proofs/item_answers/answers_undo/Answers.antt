use Rattle.std.proofs.Common.{◌≡◌, ◌*◌, [], refl, sym, ◌∙◌, ap, subst, rules}
use Rattle.md_graph.specs.PlainGraph.{PlainGraph}
use Rattle.md_script.specs.Pasts.{taken_back, MayBack, AnyGraph}
use Rattle.md_report.specs.ItemLines.{IsAllowed}
use Rattle.md_report.proofs.Stepping.{last_item}
use Rattle.md_checker.specs.ReportLines.{plain_report_line}
use Rattle.md_checker.proofs.Judged.{any_back, if_true, if_false, told_yes, told_no, judged_undo, unjudged_undo}
use Rattle.md_checker.proofs.item_answers.answers_undo.Goals as goal

pub go_back-requires : goal.go_back-requires
go_back-requires g c =
    let last = last_item (64 * g.row.W) (IsAllowed c.args.mode) c.args.graph.now c.args.history.now.items c.items.result c.items.ensures c.if-items-eq0.false c.requires.fits in
    (search rules, (search rules, (last.0, last.1, last.2, any_back (64 * g.row.W) (IsAllowed c.args.mode) c.args.graph.now last.0 last.3)))

pub take_item_back-requires-then-is_true : goal.take_item_back-requires-then-is_true
take_item_back-requires-then-is_true g c =
    let last = last_item (64 * g.row.W) (IsAllowed c.args.mode) c.args.graph.now c.args.history.now.items c.items.result c.items.ensures c.if-items-eq0.false c.requires.fits in
    let again = c.in_ok-redo.ensures.again in
    let same : c.take_item_back.new.graph ≡ c.args.graph.now = c.take_item_back.ensures.graph again.0 [] again.1 ∙ again.3 in
    let may = any_back (64 * g.row.W) (IsAllowed c.args.mode) c.args.graph.now last.0 last.3 in
    (search rules, (search rules, (last.0, last.1, last.2, subst (λ (k : PlainGraph). MayBack (64 * g.row.W) AnyGraph k last.0) (sym same) may)))

pub returns-then-is_true-clause-judged : goal.returns-then-is_true-clause-judged
returns-then-is_true-clause-judged g c =
    let last = last_item (64 * g.row.W) (IsAllowed c.args.mode) c.args.graph.now c.args.history.now.items c.items.result c.items.ensures c.if-items-eq0.false c.requires.fits in
    let again = c.in_ok-redo.ensures.again in
    let same : c.take_item_back.new.graph ≡ c.args.graph.now = c.take_item_back.ensures.graph again.0 [] again.1 ∙ again.3 in
    let back = c.in_ok-redo.ensures.back last.0 last.1 last.2 in
    let done = told_yes c.is_done_line-fit.result _ c.is_done_line-fit.ensures (c.is_true.ensures.0 c.if-is_true.true) in
    if_true c.is_done_line-fit.result c.is_true.result _ c.is_true.ensures c.if-is_true.true
    (judged_undo (64 * g.row.W) c.args.mode c.args.graph.now c.args.history.now.items (plain_report_line c.args.line.now) c.take_item_back-then-is_true.new.graph _ c.requires.fits c.requires.allowed last.0 last.1 last.2 c.go_back.new.graph back done
    (c.take_item_back-then-is_true.ensures.graph last.0 last.1 last.2 ∙ ap (λ (k : PlainGraph). taken_back k last.0) same ∙ sym back) (c.take_item_back-then-is_true.ensures.items last.0 last.1 last.2))

pub returns-clause-judged : goal.returns-clause-judged
returns-clause-judged g c =
    let last = last_item (64 * g.row.W) (IsAllowed c.args.mode) c.args.graph.now c.args.history.now.items c.items.result c.items.ensures c.if-items-eq0.false c.requires.fits in
    let again = c.in_ok-redo.ensures.again in
    let same : c.take_item_back.new.graph ≡ c.args.graph.now = c.take_item_back.ensures.graph again.0 [] again.1 ∙ again.3 in
    if_false c.is_done_line-fit.result c.is_true.result _ c.is_true.ensures c.if-is_true.false
    (λ lacks. unjudged_undo (64 * g.row.W) c.args.mode c.args.graph.now c.args.history.now.items (plain_report_line c.args.line.now) c.take_item_back.new.graph c.args.history.now.items c.requires.fits c.requires.allowed last.0 last.1 last.2
    c.go_back.new.graph (c.in_ok-redo.ensures.back last.0 last.1 last.2) (told_no c.is_done_line-fit.result _ c.is_done_line-fit.ensures lacks) same refl)

pub returns-clause-stays : goal.returns-clause-stays
returns-clause-stays g c = λ fails.
    let again = c.in_ok-redo.ensures.again in c.take_item_back.ensures.graph again.0 [] again.1 ∙ again.3
