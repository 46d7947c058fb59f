use Rattle.std.proofs.Common.{◌↔◌, IfOk, subst}
use Rattle.std.specs.Prelude.{IsTrue}
use Rattle.md_report.specs.Places.{Place, MayCome}
use Rattle.md_checker.specs.Checkers.{report_place}
use Rattle.md_checker.specs.ReportLines.{plain_report_line}
use Rattle.md_checker.proofs.Moves.{fed_sound}
use Rattle.md_checker.proofs.checker.Checker.feed_line.Goals as goal

pub invariant_of-self : goal.invariant_of-self
invariant_of-self c =
    fed_sound c.feed.result (report_place c.self.inside.inner) (report_place c.feed.new.self) (plain_report_line c.args.line.now) c.self.invariant c.feed.ensures.may c.feed.ensures.next c.feed.ensures.stays

pub returns-clause-may : goal.returns-clause-may
returns-clause-may c =
    subst (λ (p : Place). IfOk c.feed.result (λ taken. IsTrue taken ↔ MayCome p (plain_report_line c.args.line.now))) c.self.view_is c.feed.ensures.may
