use Rattle.md_checker.specs.ReportLines.{plain_report_line}
use Rattle.md_checker.proofs.PathLines.{path_line, no_path_line}
use Rattle.md_checker.proofs.judgements.is_path_line.Goals as goal

pub returns-in-Some : goal.returns-in-Some
returns-in-Some g c = path_line c.args.graph.now (plain_report_line c.args.line.now) c.in-Some.bar c.is_path.result c.in-Some.ensures c.is_path.ensures

pub returns-in-None : goal.returns-in-None
returns-in-None g c = no_path_line c.args.graph.now (plain_report_line c.args.line.now) c.in-None.ensures
