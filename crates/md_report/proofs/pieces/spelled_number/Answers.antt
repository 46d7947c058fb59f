use Rattle.std.proofs.Common.{◌∙◌, sym}
use Rattle.md_report.proofs.Named.{no_number, no_spelling, name_spelled}
use Rattle.md_report.proofs.pieces.spelled_number.Goals as goal

pub returns-in_err-value : goal.returns-in_err-value
returns-in_err-value c = rw c.from_residual.ensures (no_number c.args.piece.now (sym c.number.ensures.value ∙ c.in_err-value.was))

pub returns-then-has_leading_zero : goal.returns-then-has_leading_zero
returns-then-has_leading_zero c = let z = c.has_leading_zero.ensures.0 c.if-has_leading_zero.true in λ n few. no_spelling c.args.piece.now z.0 z.1 n

pub returns : goal.returns
returns c = name_spelled c.args.piece.now c.in_ok-value.value (sym c.number.ensures.value ∙ c.in_ok-value.was) (λ z. let t = c.if-has_leading_zero.ensures.1 z in cc)
