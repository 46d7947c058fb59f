use Rattle.md_text.specs.Numbers.{decimal}
use Rattle.md_report.specs.WellFormedLines.{IsVertexName}
use Rattle.md_report.proofs.Cutting.{no_item}
use Rattle.md_report.proofs.Named.{name_words}
use Rattle.md_report.proofs.pieces.split_name.Goals as goal

pub returns-in_err-name : goal.returns-in_err-name
returns-in_err-name c = rw c.from_residual-in_err-name.ensures (no_item decimal IsVertexName name_words c.args.text.now _ _ c.in_ok-piece.ensures c.in_err-name.ensures)
