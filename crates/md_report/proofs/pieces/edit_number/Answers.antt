use Rattle.std.proofs.Common.{arith, inl, inr}
use Rattle.md_report.proofs.Named.{other_number}
use Rattle.md_report.proofs.pieces.edit_number.Goals as goal

pub returns-then-value-eq0 : goal.returns-then-value-eq0
returns-then-value-eq0 c =
    other_number c.args.piece.now c.in_ok-value.value c.in_ok-value.ensures
    (λ is. elim c.then-value-eq0.either [
      | inl none ↦ let low = is.0 in omega arith
      | inr many ↦ let high = is.1 in omega arith
    ])
