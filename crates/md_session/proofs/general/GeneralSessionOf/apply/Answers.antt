use Rattle.std.proofs.Common.{sym, ◌∙◌, rules}
use Rattle.md_tree.specs.Plain.{plain_option}
use Rattle.md_script.proofs.BackLemmas.{back_applies, back_names}
use Rattle.md_session.proofs.AppliedSteps.{applied_step}
use Rattle.md_session.proofs.general.GeneralSessionOf.apply.Goals as goal

pub take_back-requires : goal.take_back-requires
take_back-requires g c =
    (search rules, (search rules, (back_applies c.self.inside.graph c.apply.new.graph c.args.edit.now _ c.inverse-past.ensures.back c.apply.ensures, back_names c.inverse-past.ensures.back)))

pub returns-in-Ok-clause-step : goal.returns-in-Ok-clause-step
returns-in-Ok-clause-step g c =
    applied_step c.self.inside.graph c.args.self.now c.apply.new.graph c.args.edit.now (plain_option c.in-Ok.tree) c.self.view_is
    (sym c.reason.ensures ∙ c.in_default.is) c.apply.ensures c.in-Ok.ensures.tree
