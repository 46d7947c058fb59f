use Rattle.std.proofs.Common.{◌↔◌, IfOk, subst, sym}
use Rattle.std.specs.Prelude.{IsTrue}
use Rattle.md_report.specs.Places.{MayCome}
use Rattle.md_checker.specs.ReportLines.{plain_report_line}
use Rattle.md_checker.specs.declared.checker.Inner.{Inner}
use Rattle.md_checker.specs.Checkers.{report_place}
use Rattle.md_checker.proofs.checker.Inner.feed.Goals as goal

pub returns-in-OverGraphs-clause-may : goal.returns-in-OverGraphs-clause-may
returns-in-OverGraphs-clause-may c =
    subst (λ (z : Inner). IfOk c.feed.result (λ taken. IsTrue taken ↔ MayCome (report_place z) (plain_report_line c.args.line.now)))
    (sym c.in-OverGraphs.is) c.feed.ensures.may

pub returns-in-OverBroad-clause-may : goal.returns-in-OverBroad-clause-may
returns-in-OverBroad-clause-may c =
    subst (λ (z : Inner). IfOk c.feed-in-OverBroad.result (λ taken. IsTrue taken ↔ MayCome (report_place z) (plain_report_line c.args.line.now)))
    (sym c.in-OverBroad.is) c.feed-in-OverBroad.ensures.may

pub returns-in-OverLarge-clause-may : goal.returns-in-OverLarge-clause-may
returns-in-OverLarge-clause-may c =
    subst (λ (z : Inner). IfOk c.feed-in-OverLarge.result (λ taken. IsTrue taken ↔ MayCome (report_place z) (plain_report_line c.args.line.now)))
    (sym c.in-OverLarge.is) c.feed-in-OverLarge.ensures.may
