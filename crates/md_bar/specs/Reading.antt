-- What private contracts say of reading lines of sessions on a class.
-- Source: this project's own format of reports.
use Rattle.std.specs.Prelude.{◌≡◌, ◌≢◌, ℕ, List, Result, Ok, Err, ⊤}
use Rattle.md_bar_tree.specs.declared.BarKind.{BarKind}
use Rattle.md_bar_tree.specs.Bars.{AreDifferent}
use Rattle.md_report.specs.declared.reader.LineFault.{LineFault}
use Rattle.md_report.specs.declared.reader.LineFault.TheVariants.{Syntax, Memory}
use Rattle.md_report.specs.Lines.{PlainLine, line_text}
use Rattle.md_report.specs.WellFormedLines.{IsBarOrder, IsWellFormedLine}
use Rattle.md_bar.specs.declared.ClassLine.{ClassLine}
use Rattle.md_bar.specs.ClassLines.{class_line_text, IsShared, IsWellFormedClassLine}

-- the four differ, and stand in the order of a kind of bars
abbrev pub IsOrderedBar : BarKind → ℕ → ℕ → ℕ → ℕ → Type 0
IsOrderedBar kind a b c d = AreDifferent a b c d × IsBarOrder kind a b c d

-- what reading says of the lines that stand in all sessions: the well-formed line with this text; or that none of them has it
abbrev pub IsSharedReading : List ℕ → Result ClassLine LineFault → Type 0
IsSharedReading bytes (Ok line) = IsWellFormedClassLine line × (bytes ≡ class_line_text line)
IsSharedReading bytes (Err Syntax) = (line : PlainLine) → IsShared line → IsWellFormedLine line → bytes ≢ line_text line
IsSharedReading bytes (Err Memory) = ⊤
