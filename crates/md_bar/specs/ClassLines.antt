-- The lines of reports of sessions on a class of graphs: the plain lines that they are, their texts, and which are well-formed.
-- Source: this project's own format of reports.
use Rattle.std.specs.Prelude.{◌≡◌, ◌≢◌, ℕ, List, Result, Ok, Err, ⊤}
use Rattle.md_report.specs.declared.reader.LineFault.{LineFault}
use Rattle.md_report.specs.declared.reader.LineFault.TheVariants.{Syntax, Memory}
use Rattle.md_report.specs.Lines.{PlainLine, plain_line, line_text, head_class, tree, applied, refused, refused_bar, group_refused, group_refused_bar, nothing_to_undo, barred, end}
use Rattle.md_report.specs.WellFormedLines.{IsEditNumber, IsNamedBar, IsWellFormedLine}
use Rattle.md_bar.specs.declared.ClassLine.{ClassLine}
use Rattle.md_bar.specs.declared.ClassLine.TheVariants as lines

-- the plain line that a line of the program is
abbrev pub plain_class_line : ClassLine → PlainLine
plain_class_line (lines.Head class) = head_class class
plain_class_line (lines.Plain line) = plain_line line
plain_class_line (lines.First bar) = barred bar
plain_class_line (lines.Refused bar) = refused_bar bar
plain_class_line (lines.GroupRefused number bar) = group_refused_bar number bar

-- the text of a line, without a line feed
abbrev pub class_line_text : ClassLine → List ℕ
class_line_text line = line_text (plain_class_line line)

-- the line is of a kind that stands in reports of all sessions: a tree, an item that was applied, or refused for a reason, nothing to
-- undo, or the end
abbrev pub IsShared : PlainLine → Type 0
IsShared (tree t) = ⊤
IsShared (applied t) = ⊤
IsShared (refused reason) = ⊤
IsShared (group_refused number reason) = ⊤
IsShared nothing_to_undo = ⊤
IsShared end = ⊤
IsShared _ = ⊥

-- a plain line that stands in reports of sessions on a class: its head, or one with a bar of four different names in the order of its
-- kind, or a well-formed one of those that stand in all sessions
abbrev pub IsWellFormedClass : PlainLine → Type 0
IsWellFormedClass (head_class class) = ⊤
IsWellFormedClass (barred bar) = IsNamedBar bar
IsWellFormedClass (refused_bar bar) = IsNamedBar bar
IsWellFormedClass (group_refused_bar number bar) = IsEditNumber number × IsNamedBar bar
IsWellFormedClass line = IsShared line × IsWellFormedLine line

-- the line of the program is well-formed: the plain line that it is is one of those above, each of which is one line alone, since
-- `Plain` stands for those alone that have neither class nor bar
abbrev pub IsWellFormedClassLine : ClassLine → Type 0
IsWellFormedClassLine (lines.Plain line) = IsShared (plain_line line) × IsWellFormedLine (plain_line line)
IsWellFormedClassLine line = IsWellFormedClass (plain_class_line line)

-- what reading says of bytes: the well-formed line with this text; or that no well-formed line has it
abbrev pub IsClassReading : List ℕ → Result ClassLine LineFault → Type 0
IsClassReading bytes (Ok line) = IsWellFormedClassLine line × (bytes ≡ class_line_text line)
IsClassReading bytes (Err Syntax) = (line : PlainLine) → IsWellFormedClass line → bytes ≢ line_text line
IsClassReading bytes (Err Memory) = ⊤
