-- The report of the directed graphs that the file spells, or the stop.
use Rattle.std.proofs.Common.{refl, ap, option_map}
use Rattle.md_input.specs.declared.fault.Fault.TheVariants.{Graph6}
use Rattle.md_digraph6.specs.ArcFile.{digraphs_of}
use Rattle.md_dcheck.specs.DirectedReports.{before_directed}
use Rattle.md_top.specs.Starts.{of_digraphs}
use Rattle.md_top.specs.Answer.{report}
use Rattle.md_top.specs.declared.stop.Verdict.TheVariants.{Done}
use Rattle.md_top.proofs.Beginnings.{digraphs_spelled}
use Rattle.md_top.proofs.Outputs.{command_done, command_stopped}
use Rattle.md_top.proofs.directed.directed_report.Goals as goal

pub returns-in_err-put_directed-clause-ends : goal.returns-in_err-put_directed-clause-ends
returns-in_err-put_directed-clause-ends g c =
    let file = c.args.file.now in
    command_stopped _ (report (of_digraphs (before_directed (digraphs_of file)))) (_, (digraphs_of file, digraphs_spelled file c.in_default.ensures.sound, refl), refl)
    (ap (option_map Graph6) c.in_default.ensures.sound) _ Done _ _
    (rw c.new.ensures at c.in_err-put_directed.ensures.puts) c.from_residual.ensures.1

pub returns-clause-ends : goal.returns-clause-ends
returns-clause-ends g c =
    let file = c.args.file.now in
    command_done _ (report (of_digraphs (before_directed (digraphs_of file)))) (_, (digraphs_of file, digraphs_spelled file c.in_default.ensures.sound, refl), refl)
    (ap (option_map Graph6) c.in_default.ensures.sound) _ Done
    (rw c.new.ensures at c.in_ok-put_directed.ensures.puts)
