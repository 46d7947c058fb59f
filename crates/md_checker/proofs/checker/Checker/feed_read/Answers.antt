use Rattle.md_report.specs.Lines.{plain_line}
use Rattle.md_checker.proofs.Moves.{text_may}
use Rattle.md_checker.proofs.checker.Checker.feed_read.Goals as goal

pub returns-in-Ok-clause-may : goal.returns-in-Ok-clause-may
returns-in-Ok-clause-may c = text_may c.feed.result c.args.self.now (plain_line c.in-Ok.line) c.args.text.now c.in-Ok.ensures.1 c.feed.ensures.may
