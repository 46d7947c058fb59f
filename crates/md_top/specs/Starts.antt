-- Where a report begins, whatever its places and its lines are; what is a whole report from there on, and the front of one; and the
-- answer of checking one. Source: the reports of docs/FORMATS.md.
use Rattle.std.specs.Prelude.{ℕ, List}
use Rattle.md_report.specs.Places.{Place}
use Rattle.md_report.specs.Reports.{IsReport, IsFront}
use Rattle.md_checker.specs.declared.answer.CheckAnswer.{CheckAnswer}
use Rattle.md_checker.specs.Answers.{IsCheckAnswer}
use Rattle.md_dcheck.specs.DirectedReports.{DirectedPlace, IsDirectedReport, IsDirectedFront, IsDirectedAnswer}

-- where a report begins: at a place of those over graphs and of sessions, or of those of the trees of directed graphs
pub data Start : Type 0 where
  of_graphs : Place → Start
  of_digraphs : DirectedPlace → Start

-- the bytes are a whole report from there on
abbrev pub IsReportFrom : Start → List ℕ → Type 0
IsReportFrom (of_graphs p) bytes = IsReport p bytes
IsReportFrom (of_digraphs p) bytes = IsDirectedReport p bytes

-- the bytes are the front of a report from there on
abbrev pub IsFrontFrom : Start → List ℕ → Type 0
IsFrontFrom (of_graphs p) bytes = IsFront p bytes
IsFrontFrom (of_digraphs p) bytes = IsDirectedFront p bytes

-- the answer of checking the bytes as a report from there on
abbrev pub IsAnswerFrom : Start → List ℕ → CheckAnswer → Type 0
IsAnswerFrom (of_graphs p) bytes told = IsCheckAnswer p bytes told
IsAnswerFrom (of_digraphs p) bytes told = IsDirectedAnswer p bytes told
