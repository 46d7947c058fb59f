use Rattle.std.proofs.Common.{◌*◌, ◌∷◌, [], refl, sym, ◌∙◌, ap, subst, inl, inr}
use Rattle.md_graph.proofs.Limits.{words_few}
use Rattle.md_script.specs.declared.item.Item.TheVariants.{One}
use Rattle.md_script.specs.Pasts.{inverse_of}
use Rattle.md_script.proofs.BackLemmas.{inverse_back}
use Rattle.md_script.proofs.GroupLemmas.{one_goes_back}
use Rattle.md_report.specs.declared.line.SessionMode.TheVariants.{Quiet}
use Rattle.md_report.specs.Lines.{applied_quiet, refused, refused_p4}
use Rattle.md_report.specs.Cographs.{IsCograph, IsQuietLineBy}
use Rattle.md_report.specs.Sessions.{led_to}
use Rattle.md_report.specs.Steps.{state_of}
use Rattle.md_report.proofs.Stepping.{led_step, refused_step}
use Rattle.md_cograph.proofs.GoingBack.{same_rest}
use Rattle.md_session.proofs.Answering.{was_applied, was_refused, was_barred}
use Rattle.md_session.proofs.cograph_items.answer_one.Goals as goal

pub returns-in-Applied-clause-step : goal.returns-in-Applied-clause-step
returns-in-Applied-clause-step g c =
    let before = c.args.graph.now in
    let items = c.args.history.now.items in
    let edit = c.args.edit.now in
    let told = was_applied before edit c.step.new.graph c.in-Applied.ensures.answer in
    led_step (64 * g.row.W) Quiet before items (One edit) applied_quiet c.step.new.graph _ (inverse_of before edit ∷ [])
    (subst (λ o. IsQuietLineBy o before edit applied_quiet) (sym told.no_reason) (inr (told.cograph, refl)))
    refl (ap (led_to (state_of before items)) (sym told.next_is))
    (one_goes_back (64 * g.row.W) IsCograph before c.step.new.graph edit (inverse_of before edit) c.requires.cograph
    (inverse_back (64 * g.row.W) before (words_few g.row.W c.vertices-vertices.ensures.limit) c.vertices-vertices.ensures.graph c.vertices-vertices.ensures.below edit c.requires.names told.no_reason) told.next_is)
    (c.in-Applied.ensures.pushed [] items c.open_item.ensures.items) c.requires.fits

pub returns-in-Refused-clause-step : goal.returns-in-Refused-clause-step
returns-in-Refused-clause-step g c =
    let before = c.args.graph.now in
    let items = c.args.history.now.items in
    let edit = c.args.edit.now in
    let reason = c.in-Refused.reason in
    let told = was_refused before edit reason c.step.new.graph c.in-Refused.ensures.answer in
    refused_step (64 * g.row.W) Quiet before items (One edit) (refused reason) c.step.new.graph _
    (subst (λ o. IsQuietLineBy o before edit (refused reason)) (sym told.0) refl)
    refl told.1 (same_rest _ items (sym c.drop_item.ensures.items ∙ (c.in-Refused.ensures.pushed ∙ c.open_item.ensures.items))) c.requires.fits

pub returns-in-RefusedP4-clause-step : goal.returns-in-RefusedP4-clause-step
returns-in-RefusedP4-clause-step g c =
    let before = c.args.graph.now in
    let items = c.args.history.now.items in
    let edit = c.args.edit.now in
    let p = c.in-RefusedP4.p in
    let told = was_barred before edit p c.step.new.graph c.in-RefusedP4.ensures.answer in
    refused_step (64 * g.row.W) Quiet before items (One edit) (refused_p4 p) c.step.new.graph _
    (subst (λ o. IsQuietLineBy o before edit (refused_p4 p)) (sym told.no_reason) (inl (p, told.path, refl)))
    refl told.next_is (same_rest _ items (sym c.drop_item-in-RefusedP4.ensures.items ∙ (c.in-RefusedP4.ensures.pushed ∙ c.open_item.ensures.items))) c.requires.fits
