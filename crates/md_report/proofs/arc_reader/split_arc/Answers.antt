use Rattle.md_report.specs.Lines.{arc_text}
use Rattle.md_report.specs.WellFormedLines.{IsNamedArc}
use Rattle.md_report.proofs.Cutting.{no_item}
use Rattle.md_report.proofs.Named.{arc_words}
use Rattle.md_report.proofs.arc_reader.split_arc.Goals as goal

pub returns-in_err-arc : goal.returns-in_err-arc
returns-in_err-arc c = rw c.from_residual-in_err-arc.ensures (no_item arc_text IsNamedArc arc_words c.args.text.now _ _ c.in_ok-piece.ensures c.in_err-arc.ensures)
