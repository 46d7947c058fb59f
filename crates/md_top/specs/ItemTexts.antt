-- The text of the line of an item, which is left out where the line is `ok` alone.
-- Source: this project's own format of reports.
use Rattle.std.specs.Prelude.{◌≡◌, ℕ, Option, Some, None, Vec}
use Rattle.std.specs.Global.{Global}
use Rattle.md_report.specs.Lines.{PlainLine, applied_quiet, fed_line}

-- the text is that of the line with its line feed, or there is none and the line is `ok`
abbrev pub IsItemText : Option (Vec ℕ Global) → PlainLine → Type 0
IsItemText None line = line ≡ applied_quiet
IsItemText (Some text) line = text.items ≡ fed_line line
