use Rattle.std.proofs.Common.{length}
use Rattle.md_text.specs.Numbers.{decimal}
use Rattle.md_report.specs.WellFormedLines.{IsVertexName}
use Rattle.md_report.proofs.Cutting.{IsRead}
use Rattle.md_report.proofs.Named.{name_words, one_name}
use Rattle.md_report.proofs.pieces.names.Given as goal

abbrev pub invariant-loop-rest : goal.invariant-loop-rest
invariant-loop-rest l = IsRead decimal IsVertexName name_words one_name l.text l.list.items l.rest

abbrev pub decreases-loop-rest : goal.decreases-loop-rest
decreases-loop-rest l = length l.rest
