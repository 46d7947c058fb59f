-- The head, the lines of the graphs and the end, one behind the other.
use Rattle.std.proofs.Common.{[], refl, ap, arith}
use Rattle.md_report.specs.Lines.{head}
use Rattle.md_report.specs.Places.{before_head, at_graphs, after_end}
use Rattle.md_top.proofs.Lines.{stopped_behind, puts_behind, lines_behind}
use Rattle.md_top.proofs.report.put_report.Goals as goal

pub returns-in_err-put_graph_lines-clause-puts : goal.returns-in_err-put_graph_lines-clause-puts
returns-in_err-put_graph_lines-clause-puts g c =
    stopped_behind _ (at_graphs c.args.mode c.args.graphs) _ _ _ _ _ _ _ _ _ c.from_residual-in_err-put_graph_lines.ensures.1
    (c.in_ok-put_report_line.ensures.puts (before_head c.args.mode c.args.graphs) (ap head c.mode.ensures))
    c.put_report_line.ensures.faults_never_fall
    c.in_err-put_graph_lines.ensures.puts

pub returns-clause-puts : goal.returns-clause-puts
returns-clause-puts g c =
    puts_behind _ (at_graphs c.args.mode []) after_end _ _ _ _ _ _ _
    (lines_behind _ (at_graphs c.args.mode c.args.graphs) _ _ _ _
    (c.in_ok-put_report_line.ensures.puts (before_head c.args.mode c.args.graphs) (ap head c.mode.ensures))
    c.in_ok-put_graph_lines.ensures.puts)
    (omega (arith, c.put_report_line.ensures.faults_never_fall, c.put_graph_lines.ensures.faults_never_fall))
    (c.put_report_line-2.ensures.puts (at_graphs c.args.mode []) refl)
