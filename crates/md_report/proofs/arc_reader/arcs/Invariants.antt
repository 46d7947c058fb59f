use Rattle.std.proofs.Common.{length}
use Rattle.md_report.specs.Lines.{arc_text}
use Rattle.md_report.specs.WellFormedLines.{IsNamedArc}
use Rattle.md_report.proofs.Cutting.{IsRead}
use Rattle.md_report.proofs.Named.{arc_words, one_named}
use Rattle.md_report.proofs.arc_reader.arcs.Given as goal

abbrev pub invariant-loop-rest : goal.invariant-loop-rest
invariant-loop-rest l = IsRead arc_text IsNamedArc arc_words one_named l.text l.list.items l.rest

abbrev pub decreases-loop-rest : goal.decreases-loop-rest
decreases-loop-rest l = length l.rest
