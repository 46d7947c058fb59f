use Rattle.std.proofs.Common.{◌∙◌, sym, get_or}
use Rattle.md_forcing.specs.Forcing.{arc}
use Rattle.md_checker.proofs.Leading.{arc_test, begins}
use Rattle.md_checker.proofs.certificates.begins_with.Goals as goal

pub returns-then-not-is_empty : goal.returns-then-not-is_empty
returns-then-not-is_empty c =
    begins c.args.list.now c.args.first (arc 0 0) c.eq.result (sym c.is_empty.ensures ∙ c.if-not-is_empty.true)
    (arc_test (get_or c.args.list.now 0 (arc 0 0)) c.args.first c.eq.result c.eq.ensures)
