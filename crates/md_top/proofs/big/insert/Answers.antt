-- The neighbours of a new name come before it.
use Rattle.std.proofs.Common.{◌-◌, ◌∷◌, [], ℕ, List, ◌∙◌, ap, subst, arith}
use Rattle.md_graph.specs.NameSet.{ascending}
use Rattle.md_script.specs.declared.edit.Edit.TheVariants.{AddVertex}
use Rattle.md_top.specs.declared.big.TheConstants.{BIGGEST}
use Rattle.md_top.specs.Big.{RunsTo}
use Rattle.md_top.proofs.Runs.{all_before}
use Rattle.md_top.proofs.big.insert.Goals as goal

pub count_applied-requires : goal.count_applied-requires
count_applied-requires c =
    (c.requires.few, all_before c.args.v BIGGEST c.args.names.now c.in_ok-neighbours.neighbours c.requires.few (omega arith) c.requires.names c.in_ok-neighbours.ensures)

pub returns-clause-run : goal.returns-clause-run
returns-clause-run c = (
  1 - c.count_applied.result,
  subst (λ (names : List ℕ). RunsTo c.args.session.now (AddVertex c.args.v names ∷ []) c.count_applied.result (1 - c.count_applied.result) c.count_applied.new.session) (c.in_ok-neighbours.ensures ∙ ap ascending c.requires.names) c.count_applied.ensures.run,
)
