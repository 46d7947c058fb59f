use Rattle.md_dimacs.proofs.Renamed.{text_is_read}
use Rattle.md_dimacs.proofs.laws.written_text_is_read.Goals as goal

pub returns : goal.returns
returns c = text_is_read
