use Rattle.std.proofs.Common.{◌≡◌, ◌≤◌, get_or, arith}
use Rattle.std.proofs.lemmas.List.{take_rest}
use Rattle.md_tree.proofs.Leaving.{number_before}
use Rattle.md_tree.proofs.grammar.skip_number.Goals as goal
use Rattle.md_tree.proofs.grammar.skip_number.Goals.{else-end-gt1-via-then-end-gt1+else-text-eq48, else-end-gt1-via-else-end-gt1}

pub returns-clause-on : goal.returns-clause-on
returns-clause-on c =
    let text = c.args.text.now in
    let end = c.digits_end-end.result in
    let none : get_or text 0 0 ≡ 48 → end ≤ 1 = elim c.else-end-gt1.branch [
      | else-end-gt1-via-then-end-gt1+else-text-eq48 w ↦ (λ e. absurd (w.if-text-eq48.false e))
      | else-end-gt1-via-else-end-gt1 w ↦ (λ e. w.if-end-gt1.false)
    ] in
    number_before text _ end c.digits_end-end.ensures.within c.digits_end-end.ensures.digits (let n = c.if-end-eq0.false in omega arith) none c.digits_end-end.ensures.stops (take_rest text end)
