use Rattle.md_text.proofs.LineLemmas.{lines-nil, lines-append, lines-last}
use Rattle.md_text.proofs.laws.lines_by_front.Goals as goal

pub returns-clause-none : goal.returns-clause-none
returns-clause-none c = lines-nil

pub returns-clause-line : goal.returns-clause-line
returns-clause-line c = lines-append

pub returns-clause-last : goal.returns-clause-last
returns-clause-last c = lines-last
