use Rattle.md_checker.specs.ReportLines.{plain_report_line}
use Rattle.md_checker.proofs.PathLines.{bar_line, no_bar_line}
use Rattle.md_checker.proofs.judgements.is_bar_line.Goals as goal

pub returns-in-Some : goal.returns-in-Some
returns-in-Some g c = bar_line c.args.class c.args.graph.now (plain_report_line c.args.line.now) c.in-Some.bar c.is_bar.result c.in-Some.ensures c.is_bar.ensures.exactly

pub returns-in-None : goal.returns-in-None
returns-in-None g c = no_bar_line c.args.class c.args.graph.now (plain_report_line c.args.line.now) c.in-None.ensures
