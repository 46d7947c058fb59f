-- Valid reports, and the beginnings of them.
-- Source: this project's own format of reports.
use Rattle.std.specs.Prelude.{ℕ, List}
use Rattle.md_report.specs.Lines.{fed_line}
use Rattle.md_report.specs.Places.{Place, after_end, MayCome, next_place}
use Rattle.md_report.specs.Protocols.{IsReportBy, IsBegunBy, IsFrontBy}

-- a whole report from a place on: lines that lead to the end, and their text
abbrev pub IsReport : Place → List ℕ → Type 0
IsReport p bytes = IsReportBy MayCome next_place fed_line after_end p bytes

-- nothing, or the beginning of a line that may come at the place
abbrev pub IsBegun : Place → List ℕ → Type 0
IsBegun p begun = IsBegunBy MayCome fed_line p begun

-- the beginning of a report from a place on: lines that lead somewhere, their text, and the beginning of a line that may come there
abbrev pub IsFront : Place → List ℕ → Type 0
IsFront p bytes = IsFrontBy MayCome next_place fed_line p bytes
