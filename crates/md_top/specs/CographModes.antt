-- The modes of sessions on cographs, by whether a report tells the tree of each graph.
-- Source: this project's own format of reports.
use Rattle.std.specs.Prelude.{Bool, true, false}
use Rattle.md_report.specs.declared.line.SessionMode.{SessionMode}
use Rattle.md_report.specs.declared.line.SessionMode.TheVariants.{Cograph, Quiet}

abbrev pub cograph_mode : Bool → SessionMode
cograph_mode true = Cograph
cograph_mode false = Quiet
