-- The lines of reports as they are judged: the plain lines that they are.
-- Source: this project's own format of reports.
use Rattle.md_report.specs.Lines.{PlainLine, plain_line, head_class, refused_bar, group_refused_bar, barred}
use Rattle.md_checker.specs.declared.report_line.ReportLine.{ReportLine}
use Rattle.md_checker.specs.declared.report_line.ReportLine.TheVariants.{Plain, Head, First, Refused, GroupRefused}

-- the plain line that a line of the program is
abbrev pub plain_report_line : ReportLine → PlainLine
plain_report_line (Plain line) = plain_line line.now
plain_report_line (Head class) = head_class class
plain_report_line (First bar) = barred bar
plain_report_line (Refused bar) = refused_bar bar
plain_report_line (GroupRefused number bar) = group_refused_bar number bar
