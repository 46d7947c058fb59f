use Rattle.md_report.proofs.Behind.{no_reason_word, reason_read}
use Rattle.md_report.proofs.reader.reason_of_text.Goals as goal

pub returns-in-Some : goal.returns-in-Some
returns-in-Some c = reason_read c.args.text.now _ _ _ _ c.split_before.ensures c.in-Some.ensures c.reason_behind.ensures

pub returns-in-None : goal.returns-in-None
returns-in-None c = no_reason_word c.args.text.now _ _ c.split_before.ensures c.in-None.ensures
