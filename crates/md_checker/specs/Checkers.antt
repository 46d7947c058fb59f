-- The place of a report at which a checker stands, whatever the report is about.
-- Source: this project's own format of reports.
use Rattle.md_report.specs.Places.{Place}
use Rattle.md_checker.specs.declared.checker.Inner.{Inner}
use Rattle.md_checker.specs.declared.checker.Inner.TheVariants.{OverGraphs, OverBroad, OverLarge}

-- the place of the checker inside
abbrev pub report_place : Inner → Place
report_place (OverGraphs p) = p
report_place (OverBroad p) = p
report_place (OverLarge p) = p
