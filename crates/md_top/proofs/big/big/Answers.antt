-- The line of the numbers is put, or the call stopped.
use Rattle.std.proofs.Common.{◌∙◌, refl}
use Rattle.md_top.specs.declared.request.Request.TheVariants.{Big}
use Rattle.md_top.specs.declared.stop.Verdict.TheVariants.{Done}
use Rattle.md_top.specs.Answer.{text}
use Rattle.md_top.specs.Big.{numbers_line}
use Rattle.md_top.proofs.Outputs.{command_done, command_stopped}
use Rattle.md_top.proofs.big.big.Goals as goal

pub returns-in_err-put_piece-clause-ends : goal.returns-in_err-put_piece-clause-ends
returns-in_err-put_piece-clause-ends g c =
    let same = c.as_slice.ensures ∙ c.numbers_line-line.ensures in
    command_stopped (Big c.args.size) (text (numbers_line c.in_ok-told.told)) (c.in_ok-told.told, c.in_ok-told.ensures.told, refl) refl _ Done _ _
    (rw same at c.in_err-put_piece.ensures.puts) c.from_residual-in_err-put_piece.ensures.1

pub returns-clause-ends : goal.returns-clause-ends
returns-clause-ends g c =
    let same = c.as_slice.ensures ∙ c.numbers_line-line.ensures in
    command_done (Big c.args.size) (text (numbers_line c.in_ok-told.told)) (c.in_ok-told.told, c.in_ok-told.ensures.told, refl) refl _ Done
    (rw same at c.in_ok-put_piece.ensures.puts)
