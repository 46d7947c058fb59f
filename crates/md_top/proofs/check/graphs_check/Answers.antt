-- The answer of the check over what the file spells, or the stop.
use Rattle.std.proofs.Common.{refl}
use Rattle.md_report.specs.Places.{before_head}
use Rattle.md_top.specs.declared.request.Subject.TheVariants.{Graphs}
use Rattle.md_top.specs.declared.request.Request.TheVariants.{Check}
use Rattle.md_top.specs.Starts.{of_graphs}
use Rattle.md_top.specs.Answer.{answer, verdict_of}
use Rattle.md_top.proofs.Outputs.{command_done, command_stopped, command_refused}
use Rattle.md_top.proofs.check.graphs_check.Goals as goal

pub returns-in_err-answer-clause-ends : goal.returns-in_err-answer-clause-ends
returns-in_err-answer-clause-ends g c =
    command_refused (Check (Graphs c.args.mode c.args.from c.args.file.now) c.args.report.now) _ _ _ _ _ (λ named is. is) c.in_err-answer.ensures.stops c.from_residual.ensures.1

pub returns-in_err-put_answer-clause-ends : goal.returns-in_err-put_answer-clause-ends
returns-in_err-put_answer-clause-ends g c =
    let told = c.in_ok-answer.ensures.answer in
    command_stopped _ (answer (of_graphs (before_head c.args.mode told.0)) c.args.report.now) (_, (told.0, told.1, refl), refl) c.in_ok-answer.ensures.faultless _
    (verdict_of c.in_ok-answer.answer) _ _
    (c.in_ok-answer.answer, told.2, refl, c.in_err-put_answer.ensures.puts) c.from_residual-in_err-put_answer.ensures.1

pub returns-clause-ends : goal.returns-clause-ends
returns-clause-ends g c =
    let told = c.in_ok-answer.ensures.answer in
    rw c.verdict_of.ensures
    (command_done _ (answer (of_graphs (before_head c.args.mode told.0)) c.args.report.now) (_, (told.0, told.1, refl), refl) c.in_ok-answer.ensures.faultless _
    (verdict_of c.in_ok-answer.answer)
    (c.in_ok-answer.answer, told.2, refl, c.in_ok-put_answer.ensures.puts))
