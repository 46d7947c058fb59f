use Rattle.md_text.proofs.NumberLemmas.{decimal_digit, decimal_step, value-nil, value-push, displayed-decimal}
use Rattle.md_text.proofs.laws.decimal_by_digits.Goals as goal

pub returns-clause-decimal : goal.returns-clause-decimal
returns-clause-decimal c = (decimal_digit, decimal_step)

pub returns-clause-value : goal.returns-clause-value
returns-clause-value c = (value-nil, value-push)

pub returns-clause-displayed : goal.returns-clause-displayed
returns-clause-displayed c = displayed-decimal
