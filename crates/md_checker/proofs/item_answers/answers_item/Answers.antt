use Rattle.std.proofs.Common.{◌*◌, IfOk, sym, subst}
use Rattle.md_script.specs.declared.item.Item.{Item}
use Rattle.md_checker.specs.ReportLines.{plain_report_line}
use Rattle.md_checker.specs.Judged.{IsJudged}
use Rattle.md_checker.proofs.item_answers.answers_item.Goals as goal

pub returns-in-One-clause-judged : goal.returns-in-One-clause-judged
returns-in-One-clause-judged g c =
    subst (λ (i : Item). IfOk c.answers_edit.result (λ taken. IsJudged taken (64 * g.row.W) c.args.mode c.args.graph.now c.args.history.now.items i (plain_report_line c.args.line.now) c.answers_edit.new.graph c.answers_edit.new.history.items))
    (sym c.in-One.is) c.answers_edit.ensures.judged

pub returns-in-Group-clause-judged : goal.returns-in-Group-clause-judged
returns-in-Group-clause-judged g c =
    subst (λ (i : Item). IfOk c.answers_group.result (λ taken. IsJudged taken (64 * g.row.W) c.args.mode c.args.graph.now c.args.history.now.items i (plain_report_line c.args.line.now) c.answers_group.new.graph c.answers_group.new.history.items))
    (sym c.in-Group.is) c.answers_group.ensures.judged

pub returns-in-Undo-clause-judged : goal.returns-in-Undo-clause-judged
returns-in-Undo-clause-judged g c =
    subst (λ (i : Item). IfOk c.answers_undo.result (λ taken. IsJudged taken (64 * g.row.W) c.args.mode c.args.graph.now c.args.history.now.items i (plain_report_line c.args.line.now) c.answers_undo.new.graph c.answers_undo.new.history.items))
    (sym c.in-Undo.is) c.answers_undo.ensures.judged
