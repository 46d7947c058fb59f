use Rattle.std.proofs.Common.{subst, sym}
use Rattle.md_report.specs.Laws.{IsSound}
use Rattle.md_checker.proofs.Spelled.{are_graphs}
use Rattle.md_checker.proofs.checker.Checker.over_graphs.Goals as goal

pub invariant_of-result : goal.invariant_of-result
invariant_of-result c =
    subst IsSound (sym c.in_ok-checker.ensures) (are_graphs c.args.from c.args.file.now c.in_ok-graphs.graphs c.in_ok-graphs.ensures.spells)
