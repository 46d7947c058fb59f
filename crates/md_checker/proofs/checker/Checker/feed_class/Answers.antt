use Rattle.std.proofs.Common.{sym, ◌∙◌, ap, subst}
use Rattle.md_report.specs.Laws.{IsSound}
use Rattle.md_report.specs.Lines.{line_text}
use Rattle.md_checker.specs.ReportLines.{plain_report_line}
use Rattle.md_checker.proofs.Moves.{text_may, text_next, none_may}
use Rattle.md_checker.proofs.checker.Checker.feed_class.Goals as goal

pub returns-in-Ok-clause-may : goal.returns-in-Ok-clause-may
returns-in-Ok-clause-may c =
    text_may c.feed_line.result c.args.self.now (plain_report_line c.of_class.result) c.args.text.now (c.in-Ok.ensures.1 ∙ ap line_text (sym c.of_class.ensures)) c.feed_line.ensures.may

pub returns-in-Ok-clause-next : goal.returns-in-Ok-clause-next
returns-in-Ok-clause-next c =
    text_next c.feed_line.result c.args.self.now c.feed_line.new.self (plain_report_line c.of_class.result) c.args.text.now (c.in-Ok.ensures.1 ∙ ap line_text (sym c.of_class.ensures)) c.feed_line.ensures.may
    c.feed_line.ensures.next

pub returns-in-Err-Syntax-clause-may : goal.returns-in-Err-Syntax-clause-may
returns-in-Err-Syntax-clause-may c =
    let other = rw c.in-Err-Syntax.field-0-is at c.in-Err-Syntax.ensures in
    ((λ yes. absurd (cc)), λ some. absurd (none_may c.args.self.now c.args.text.now (subst IsSound c.self.view_is c.self.invariant) c.requires other some))
