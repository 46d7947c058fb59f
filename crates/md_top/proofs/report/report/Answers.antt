-- The report of the graphs that the file spells, or the stop.
use Rattle.std.proofs.Common.{refl}
use Rattle.md_report.specs.Places.{before_head}
use Rattle.md_top.specs.declared.request.Subject.TheVariants.{Graphs}
use Rattle.md_top.specs.declared.request.Request.TheVariants.{Report}
use Rattle.md_top.specs.Starts.{of_graphs}
use Rattle.md_top.specs.Answer.{report}
use Rattle.md_top.specs.declared.stop.Verdict.TheVariants.{Done}
use Rattle.md_top.proofs.Outputs.{command_done, command_stopped, command_refused}
use Rattle.md_top.proofs.report.report.Goals as goal

pub returns-in_err-graphs-clause-ends : goal.returns-in_err-graphs-clause-ends
returns-in_err-graphs-clause-ends g c =
    command_refused (Report (Graphs c.args.mode c.args.from c.args.file.now)) _ _ _ _ _ (λ named is. is) (rw c.limit.ensures.value at c.in_err-graphs.ensures.stops) c.from_residual.ensures.1

pub returns-in_err-put_report-clause-ends : goal.returns-in_err-put_report-clause-ends
returns-in_err-put_report-clause-ends g c =
    command_stopped _ (report (of_graphs (before_head c.args.mode c.in_ok-graphs.graphs))) (_, (c.in_ok-graphs.graphs, c.in_ok-graphs.ensures.spells, refl), refl) (rw c.limit.ensures.value at c.in_ok-graphs.ensures.faultless) _ Done _ _
    c.in_err-put_report.ensures.puts c.from_residual-in_err-put_report.ensures.1

pub returns-clause-ends : goal.returns-clause-ends
returns-clause-ends g c =
    command_done _ (report (of_graphs (before_head c.args.mode c.in_ok-graphs.graphs))) (_, (c.in_ok-graphs.graphs, c.in_ok-graphs.ensures.spells, refl), refl) (rw c.limit.ensures.value at c.in_ok-graphs.ensures.faultless) _ Done
    c.in_ok-put_report.ensures.puts
