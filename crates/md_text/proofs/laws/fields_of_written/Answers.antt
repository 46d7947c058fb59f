use Rattle.md_text.proofs.FieldLemmas.{fields-joined, fields_are_words}
use Rattle.md_text.proofs.laws.fields_of_written.Goals as goal

pub returns-clause-joined : goal.returns-clause-joined
returns-clause-joined c = fields-joined

pub returns-clause-words : goal.returns-clause-words
returns-clause-words c = fields_are_words
