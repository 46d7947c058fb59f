use Rattle.md_report.specs.Lines.{plain_line}
use Rattle.md_top.proofs.report.spell_model.Goals as goal

pub returns : goal.returns
returns g c = (plain_line c.in_ok-line.line, c.in_ok-line.ensures, c.in_ok-space.ensures)
