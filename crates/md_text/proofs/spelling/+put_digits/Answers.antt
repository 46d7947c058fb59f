use Rattle.std.proofs.Common.{arith}
use Rattle.md_text.proofs.PieceLemmas.{first_digit, one_digit, next_digit, next_count, at_most_five}
use Rattle.md_text.proofs.spelling.+put_digits.Goals as goal

pub returns-then-n-lt10-clause-text : goal.returns-then-n-lt10-clause-text
returns-then-n-lt10-clause-text t c = first_digit c.args.n c.args.bytes.now c.if-n-lt10.true (omega arith)

pub returns-then-n-lt10-clause-count : goal.returns-then-n-lt10-clause-count
returns-then-n-lt10-clause-count t c = one_digit c.args.n c.if-n-lt10.true

pub returns-clause-text : goal.returns-clause-text
returns-clause-text t c = next_digit c.args.n c.put_digits-at.result c.put_digits-at.new.bytes c.if-n-lt10.false c.put_digits-at.ensures.text (omega (arith, c.put_digits-at.ensures.short))

pub returns-clause-count : goal.returns-clause-count
returns-clause-count t c = next_count c.args.n c.put_digits-at.result c.if-n-lt10.false c.put_digits-at.ensures.count

pub returns-clause-short : goal.returns-clause-short
returns-clause-short t c = at_most_five c.args.n _ c.requires (next_count c.args.n c.put_digits-at.result c.if-n-lt10.false c.put_digits-at.ensures.count)
