use Rattle.md_graph6.proofs.FileLemmas.{ended_lines_spell, ended_line_spells, text_spells}
use Rattle.md_graph6.proofs.laws.written_lines_spell.Goals as goal

pub returns-clause-all : goal.returns-clause-all
returns-clause-all c = ended_lines_spell

pub returns-clause-one : goal.returns-clause-one
returns-clause-one c = ended_line_spells

pub returns-clause-text : goal.returns-clause-text
returns-clause-text c = text_spells
