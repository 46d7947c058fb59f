-- Each answer by its line.
use Rattle.md_session.specs.declared.cograph.Answer.TheVariants.{Applied, Refused, RefusedP4}
use Rattle.md_top.proofs.Runs.{runs_named}
use Rattle.md_top.proofs.big.count_applied.Goals as goal

pub returns-in-Applied-clause-run : goal.returns-in-Applied-clause-run
returns-in-Applied-clause-run c = runs_named _ _ _ _ Applied c.in-Applied.is c.answer.ensures

pub returns-in-Refused-clause-run : goal.returns-in-Refused-clause-run
returns-in-Refused-clause-run c = runs_named _ _ _ _ (Refused c.in-Refused.field-0) c.in-Refused.is c.answer.ensures

pub returns-in-RefusedP4-clause-run : goal.returns-in-RefusedP4-clause-run
returns-in-RefusedP4-clause-run c = runs_named _ _ _ _ (RefusedP4 c.in-RefusedP4.field-0) c.in-RefusedP4.is c.answer.ensures
