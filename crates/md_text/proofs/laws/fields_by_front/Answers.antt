use Rattle.md_text.proofs.FieldLemmas.{fields-nil, fields-blank, fields-word, fields-append}
use Rattle.md_text.proofs.laws.fields_by_front.Goals as goal

pub returns-clause-none : goal.returns-clause-none
returns-clause-none c = fields-nil

pub returns-clause-blank : goal.returns-clause-blank
returns-clause-blank c = fields-blank

pub returns-clause-field : goal.returns-clause-field
returns-clause-field c = fields-append

pub returns-clause-last : goal.returns-clause-last
returns-clause-last c = fields-word
