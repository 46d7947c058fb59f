use Rattle.md_text.proofs.NumberLemmas.{number_of-decimal, decimal_is_word, decimal_is_digits, length-decimal-le}
use Rattle.md_text.proofs.laws.number_of_written.Goals as goal

pub returns-clause-number : goal.returns-clause-number
returns-clause-number c = number_of-decimal

pub returns-clause-word : goal.returns-clause-word
returns-clause-word c = decimal_is_word

pub returns-clause-digits : goal.returns-clause-digits
returns-clause-digits c = decimal_is_digits

pub returns-clause-len : goal.returns-clause-len
returns-clause-len c = length-decimal-le
