-- The report of the session on what the files spell, or the stop.
use Rattle.std.proofs.Common.{refl}
use Rattle.md_input.specs.Inputs.{graph_of_inputs, script_of_inputs}
use Rattle.md_report.specs.Places.{before_session}
use Rattle.md_top.specs.Starts.{of_graphs}
use Rattle.md_top.specs.Answer.{report}
use Rattle.md_top.specs.declared.stop.Verdict.TheVariants.{Done}
use Rattle.md_top.proofs.Outputs.{command_done, command_stopped}
use Rattle.md_top.proofs.session.session_report.Goals as goal

pub returns-in_err-put_counting-clause-ends : goal.returns-in_err-put_counting-clause-ends
returns-in_err-put_counting-clause-ends g c =
    let over = c.in_ok-inputs.inputs in
    command_stopped _ (report (of_graphs (before_session c.args.mode (graph_of_inputs over) (script_of_inputs over))))
    (_, (graph_of_inputs over, script_of_inputs over, c.in_ok-inputs.ensures.graph, c.in_ok-inputs.ensures.script, refl), refl)
    c.in_ok-inputs.ensures.faultless _ Done _ _
    c.in_err-put_counting.ensures.puts c.from_residual-in_err-put_counting.ensures.1

pub returns-clause-ends : goal.returns-clause-ends
returns-clause-ends g c =
    let over = c.in_ok-inputs.inputs in
    command_done _ (report (of_graphs (before_session c.args.mode (graph_of_inputs over) (script_of_inputs over))))
    (_, (graph_of_inputs over, script_of_inputs over, c.in_ok-inputs.ensures.graph, c.in_ok-inputs.ensures.script, refl), refl)
    c.in_ok-inputs.ensures.faultless _ Done
    c.in_ok-put_counting.ensures.puts
