use Rattle.md_text.specs.Numbers.{decimal}
use Rattle.md_report.specs.WellFormedLines.{IsEditNumber}
use Rattle.md_report.proofs.Cutting.{no_item}
use Rattle.md_report.proofs.Named.{edit_words}
use Rattle.md_report.proofs.pieces.split_number.Goals as goal

pub returns-in_err-edit_number : goal.returns-in_err-edit_number
returns-in_err-edit_number c =
    rw c.from_residual-in_err-edit_number.ensures
    (record { cut = no_item decimal IsEditNumber edit_words c.args.text.now _ _ c.in_ok-piece.ensures c.in_err-edit_number.ensures })
