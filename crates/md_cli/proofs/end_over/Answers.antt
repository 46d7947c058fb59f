-- The number 2 is that of one status.
use Rattle.std.proofs.Common.{◌≡◌, refl, sym, ◌∙◌, ap}
use Rattle.md_top.specs.declared.stop.Status.{Status}
use Rattle.md_top.specs.declared.stop.Status.TheVariants.{Done, Rejected, Usage, BadInput, ReadFault, WriteFault, Memory, TooLong}
use Rattle.md_top.specs.Status.{exit_number}
use Rattle.md_cli.proofs.end_over.Goals as goal

is_usage : (status : Status) → exit_number status ≡ 2 → status ≡ Usage
is_usage Done two = cc
is_usage Rejected two = cc
is_usage Usage two = refl
is_usage BadInput two = cc
is_usage ReadFault two = cc
is_usage WriteFault two = cc
is_usage Memory two = cc
is_usage TooLong two = cc

pub returns-clause-number : goal.returns-clause-number
returns-clause-number c = (c.run_here.result, c.exit_code.ensures)

pub returns-clause-usage : goal.returns-clause-usage
returns-clause-usage c = (
  (λ two. c.run_here.ensures.usage.0 (is_usage c.run_here.result (sym c.exit_code.ensures ∙ two))),
  (λ none. c.exit_code.ensures ∙ ap exit_number (c.run_here.ensures.usage.1 none)),
)
