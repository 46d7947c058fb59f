use Rattle.std.proofs.Common.{rules, ◌≡◌, ◌*◌, ◌+◌, [], ◌∷◌, drop, refl, sym, ◌∙◌, subst}
use Rattle.md_script.specs.Items.{HasItemNamesBelow}
use Rattle.md_script.proofs.ChangeLemmas.{holds_at}
use Rattle.md_report.proofs.Groups.{drop_read}
use Rattle.md_checker.specs.ReportLines.{plain_report_line}
use Rattle.md_checker.specs.Judged.{IsJudged}
use Rattle.md_checker.proofs.Moves.{item_step, item_lacks, closing_step}
use Rattle.md_checker.proofs.session_checker.comes.Goals as goal

pub returns-then-not-branch-2-clause-none : goal.returns-then-not-branch-2-clause-none
returns-then-not-branch-2-clause-none g c =
    let told =
    item_lacks (64 * g.row.W) c.args.mode c.args.graph.now c.answers_item.new.graph c.args.history.now.items c.answers_item.new.history.items c.args.script.now c.args.answered c.get-item.result.now (plain_report_line c.args.line.now)
    c.get-item.ensures.item
    (subst (λ b. IsJudged b (64 * g.row.W) c.args.mode c.args.graph.now c.args.history.now.items c.get-item.result.now (plain_report_line c.args.line.now) c.answers_item.new.graph c.answers_item.new.history.items) c.if-not-branch-2.true
    c.in_ok-answers_item.ensures.judged)
    in
    (told.0, told.1.0, told.1.1)

pub returns-clause-leads : goal.returns-clause-leads
returns-clause-leads g c =
    item_step (64 * g.row.W) c.args.mode c.args.graph.now c.answers_item.new.graph c.args.history.now.items c.answers_item.new.history.items c.args.script.now c.args.answered c.get-item.result.now (plain_report_line c.args.line.now)
    c.get-item.ensures.item _ refl refl
    (subst (λ b. IsJudged b (64 * g.row.W) c.args.mode c.args.graph.now c.args.history.now.items c.get-item.result.now (plain_report_line c.args.line.now) c.answers_item.new.graph c.answers_item.new.history.items) c.if-not-branch-2.false
    c.in_ok-answers_item.ensures.judged)

pub answers_item-requires : goal.answers_item-requires
answers_item-requires g c =
    let rest = drop_read c.args.script.now c.args.answered c.get-item.result.now c.get-item.ensures.item in
    let allowed = c.requires.allowed (λ none. (let f : c.get-item.result.now ∷ drop (c.args.answered + 1) c.args.script.now ≡ [] = sym rest ∙ none in cc)) in (
      search rules,
      (
        search rules,
        (holds_at (HasItemNamesBelow (64 * g.row.W)) c.args.script.now c.args.answered c.get-item.result.now c.get-item.ensures.item c.requires.names, (c.requires.fits, allowed)),
      ),
    )

pub returns-then-answered-len-clause-leads : goal.returns-then-answered-len-clause-leads
returns-then-answered-len-clause-leads g c =
    closing_step (64 * g.row.W) c.args.mode c.args.graph.now c.args.history.now.items c.args.script.now c.args.answered (plain_report_line c.args.line.now) c.due_behind_items.result
    (c.if-answered-len.true ∙ c.len.ensures.count) (c.in_ok-closes_items.ensures.0 c.if-not-branch.false) c.due_behind_items.ensures.due c.due_behind_items.ensures.later
