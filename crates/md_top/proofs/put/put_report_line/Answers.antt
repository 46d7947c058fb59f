use Rattle.std.proofs.Common.{◌∙◌}
use Rattle.md_report.specs.Lines.{plain_line}
use Rattle.md_top.proofs.Lines.{one_line}
use Rattle.md_top.proofs.put.put_report_line.Goals as goal

pub returns-clause-puts : goal.returns-clause-puts
returns-clause-puts g c p may =
    let same = c.deref.ensures.value ∙ c.in_ok-text.ensures in
    one_line p (plain_line c.args.line) _ _ _ _ _ may (rw same at c.put_piece.ensures.puts)
