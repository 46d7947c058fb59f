use Rattle.std.proofs.Common.{◌*◌, [], refl, sym, ◌∙◌, ap}
use Rattle.md_tree.specs.Plain.{plain_option}
use Rattle.md_script.specs.declared.item.Item.TheVariants.{One}
use Rattle.md_script.specs.Pasts.{AnyGraph}
use Rattle.md_script.proofs.GroupLemmas.{one_goes_back}
use Rattle.md_report.specs.declared.line.SessionMode.TheVariants.{Edit}
use Rattle.md_report.specs.Sessions.{led_to}
use Rattle.md_report.specs.Steps.{state_of}
use Rattle.md_session.proofs.AppliedSteps.{applied_step}
use Rattle.md_report.proofs.Stepping.{led_step}
use Rattle.md_session.proofs.general_items.apply_one.Goals as goal

pub returns-in-Ok-clause-step : goal.returns-in-Ok-clause-step
returns-in-Ok-clause-step g c =
    let before = c.args.graph.now in
    let items = c.args.history.now.items in
    led_step (64 * g.row.W) Edit before items (One c.args.edit.now) _ c.apply.new.graph _ _
    (applied_step before before c.apply.new.graph c.args.edit.now (plain_option c.in-Ok.tree) refl (sym c.reason.ensures ∙ c.in_default.is) c.apply.ensures c.in-Ok.ensures.tree).line_is
    refl (ap (led_to (state_of before items)) (sym c.apply.ensures))
    (one_goes_back (64 * g.row.W) AnyGraph before c.apply.new.graph c.args.edit.now _ tt c.inverse-past.ensures.back c.apply.ensures)
    (c.push.ensures.items [] items c.open_item.ensures.items) c.requires.fits
