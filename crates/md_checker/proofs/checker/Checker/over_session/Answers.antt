use Rattle.std.proofs.Common.{subst, sym, [], ◌∷◌}
use Rattle.md_report.specs.Laws.{IsSound}
use Rattle.md_script.proofs.FileLemmas.{script_has_names}
use Rattle.md_input.specs.Inputs.{graph_of_inputs, script_of_inputs}
use Rattle.md_checker.proofs.Spelled.{are_graphs}
use Rattle.md_checker.proofs.checker.Checker.over_session.Goals as goal

pub invariant_of-result : goal.invariant_of-result
invariant_of-result c =
    subst IsSound (sym c.in_ok-inner.ensures) (
      (are_graphs c.args.from c.args.file.now (graph_of_inputs c.in_ok-inputs.inputs ∷ []) c.in_ok-inputs.ensures.graph).0,
      script_has_names c.args.script.now (script_of_inputs c.in_ok-inputs.inputs) c.in_ok-inputs.ensures.script,
    )

pub returns-clause-first : goal.returns-clause-first
returns-clause-first c = (_, _, c.in_ok-inputs.ensures.graph, c.in_ok-inputs.ensures.script, c.in_ok-inner.ensures)
