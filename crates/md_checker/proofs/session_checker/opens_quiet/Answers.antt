use Rattle.std.proofs.Common.{◌*◌, drop}
use Rattle.md_checker.specs.ReportLines.{plain_report_line}
use Rattle.md_checker.proofs.Moves.{opened_leads}
use Rattle.md_checker.proofs.session_checker.opens_quiet.Goals as goal

pub returns-clause-leads : goal.returns-clause-leads
returns-clause-leads g c =
    opened_leads c.comes.result (64 * g.row.W) c.args.graph.now c.comes.new.graph c.args.history.now.items c.comes.new.history.items (drop c.args.answered c.args.script.now) c.args.script.now (plain_report_line c.args.line.now)
    (c.in_ok-is_cograph.ensures.0 c.if-not-branch.false) c.requires.first c.comes.ensures.leads
