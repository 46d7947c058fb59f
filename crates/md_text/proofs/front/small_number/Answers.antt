use Rattle.std.proofs.Common.{◌∷◌, ◌+◌, ◌∙◌, ap, arith}
use Rattle.md_text.proofs.FrontLemmas.{no_digit_lacks, zero_lacks, digit_first}
use Rattle.md_text.proofs.front.small_number.Goals as goal

pub returns-in_err-first : goal.returns-in_err-first
returns-in_err-first c = record { number = rw c.from_residual.ensures (no_digit_lacks c.args.text.now c.in_err-first.ensures) }

pub returns-in-Some : goal.returns-in-Some
returns-in-Some c =
    let s = c.in-Some.ensures in
    record {
      number = zero_lacks c.args.text.now c.in_ok-first.behind.now _ _ s.0
          (c.in_ok-first.ensures.1 ∙ ap (λ n. (48 + n) ∷ c.in_ok-first.behind.now) c.if-first-eq0.true) s.1;
    }

pub returns-in-None : goal.returns-in-None
returns-in-None c = record {
  number = (
    digit_first c.args.text.now c.in_ok-first.behind.now 0 (omega arith)
        (c.in_ok-first.ensures.1 ∙ ap (λ n. (48 + n) ∷ c.in_ok-first.behind.now) c.if-first-eq0.true),
    c.in-None.ensures,
    omega arith,
  );
}
