use Rattle.md_text.proofs.NumberLemmas.{decimal_is_canonical, decimal-value, decimal_injective}
use Rattle.md_text.proofs.laws.decimal_is_the_spelling.Goals as goal

pub returns-clause-canonical : goal.returns-clause-canonical
returns-clause-canonical c = decimal_is_canonical

pub returns-clause-spelling : goal.returns-clause-spelling
returns-clause-spelling c = decimal-value

pub returns-clause-injective : goal.returns-clause-injective
returns-clause-injective c = decimal_injective
