use Rattle.md_text.proofs.LineLemmas.{lines-ended, lines-ended_append}
use Rattle.md_text.proofs.laws.lines_of_written.Goals as goal

pub returns-clause-all : goal.returns-clause-all
returns-clause-all c = lines-ended

pub returns-clause-front : goal.returns-clause-front
returns-clause-front c = lines-ended_append
