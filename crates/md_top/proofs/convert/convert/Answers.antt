-- The texts of the graphs that the file spells, or the stop.
use Rattle.std.proofs.Common.{refl}
use Rattle.std.specs.List.{flat_map}
use Rattle.md_top.specs.declared.request.Request.TheVariants.{Convert}
use Rattle.md_top.specs.Answer.{text, graph_text}
use Rattle.md_top.specs.declared.stop.Verdict.TheVariants.{Done}
use Rattle.md_top.proofs.Outputs.{command_done, command_stopped, command_refused}
use Rattle.md_top.proofs.convert.convert.Goals as goal

pub returns-in_err-graphs-clause-ends : goal.returns-in_err-graphs-clause-ends
returns-in_err-graphs-clause-ends g c =
    command_refused (Convert c.args.to c.args.from c.args.file.now) _ _ _ _ _ (λ named is. is) c.in_err-graphs.ensures.stops c.from_residual.ensures.1

pub returns-in_err-put_texts-clause-ends : goal.returns-in_err-put_texts-clause-ends
returns-in_err-put_texts-clause-ends g c =
    command_stopped _ (text (flat_map (graph_text c.args.to) c.in_ok-graphs.graphs)) (c.in_ok-graphs.graphs, c.in_ok-graphs.ensures.spells, refl) c.in_ok-graphs.ensures.faultless _ Done _ _
    c.in_err-put_texts.ensures.puts c.from_residual-in_err-put_texts.ensures.1

pub returns-clause-ends : goal.returns-clause-ends
returns-clause-ends g c =
    command_done _ (text (flat_map (graph_text c.args.to) c.in_ok-graphs.graphs)) (c.in_ok-graphs.graphs, c.in_ok-graphs.ensures.spells, refl) c.in_ok-graphs.ensures.faultless _ Done
    c.in_ok-put_texts.ensures.puts
