use Rattle.std.proofs.Common.{◌∙◌, sym}
use Rattle.md_report.proofs.Behind.{nothing_left, chain_text_some}
use Rattle.md_report.proofs.arc_reader.chain.Goals as goal

pub returns-then-is_empty : goal.returns-then-is_empty
returns-then-is_empty c = chain_text_some c.args.text.now (nothing_left c.args.text.now (sym c.is_empty.ensures ∙ c.if-is_empty.true))
