use Rattle.std.proofs.Common.{◌*◌, length, refl, sym, ◌∙◌, ap, rules}
use Rattle.md_graph.proofs.Limits.{words_few}
use Rattle.md_script.specs.declared.item.Item.TheVariants.{Group}
use Rattle.md_script.proofs.GroupLemmas.{kept_goes_back}
use Rattle.md_report.specs.declared.line.SessionMode.TheVariants.{Quiet}
use Rattle.md_report.specs.Lines.{applied_quiet}
use Rattle.md_report.specs.Cographs.{IsCograph}
use Rattle.md_report.specs.Sessions.{led_to}
use Rattle.md_report.proofs.Groups.{whole_line}
use Rattle.md_session.specs.Answers.{answer_line}
use Rattle.md_report.specs.Steps.{state_of}
use Rattle.md_report.proofs.Stepping.{refused_step, led_step, all_graph}
use Rattle.md_session.proofs.Answering.{stopped_answer, not_applied, refused_bound}
use Rattle.md_session.proofs.cograph_items.answer_group.Goals as goal

pub take_back_item-requires : goal.take_back_item-requires
take_back_item-requires g c =
    let items = c.args.history.now.items in
    let told = c.in-Some.ensures.refused items c.open_item.ensures.items in
    let goes =
    kept_goes_back (64 * g.row.W) IsCograph c.args.graph.now c.apply_edits.new.graph c.args.edits.now told.2 told.0 (words_few g.row.W c.vertices-vertices.ensures.limit)
    c.vertices-vertices.ensures.graph c.vertices-vertices.ensures.below c.requires.cograph c.requires.names told.4 in
    (search rules, (search rules, (c.apply_edits.ensures.denotes, (c.requires.near, (told.2, items, told.5, goes.may)))))

pub returns-in-Some-clause-step : goal.returns-in-Some-clause-step
returns-in-Some-clause-step g c =
    let items = c.args.history.now.items in
    let answer = c.in-Some.answer in
    let told = c.in-Some.ensures.refused items c.open_item.ensures.items in
    let goes =
    kept_goes_back (64 * g.row.W) IsCograph c.args.graph.now c.apply_edits.new.graph c.args.edits.now told.2 told.0 (words_few g.row.W c.vertices-vertices.ensures.limit)
    c.vertices-vertices.ensures.graph c.vertices-vertices.ensures.below c.requires.cograph c.requires.names told.4 in
    refused_step (64 * g.row.W) Quiet c.args.graph.now items (Group c.args.edits.now) (answer_line answer) c.take_back_item.new.graph _
    (stopped_answer c.args.graph.now c.apply_edits.new.graph c.args.edits.now told.2 told.0 told.4 told.1 told.3 answer told.6)
    (not_applied c.apply_edits.new.graph told.0 told.1 answer told.6)
    (c.take_back_item.ensures.graph told.2 items told.5 ∙ goes.leads) (c.take_back_item.ensures.items told.2 items told.5) c.requires.fits

pub returns-in-Some-clause-bound : goal.returns-in-Some-clause-bound
returns-in-Some-clause-bound g c =
    let items = c.args.history.now.items in
    let told = c.in-Some.ensures.refused items c.open_item.ensures.items in
    refused_bound (64 * g.row.W) (words_few g.row.W c.vertices-vertices.ensures.limit) c.args.graph.now c.apply_edits.new.graph c.args.edits.now told.2 told.0 c.vertices-vertices.ensures.graph c.vertices-vertices.ensures.below
    c.requires.cograph c.requires.names told.4 told.1 told.3 c.in-Some.answer c.args.steps.now c.apply_edits.new.steps c.take_back_item.new.steps told.6 c.in-Some.ensures.bound
    (c.take_back_item.ensures.bound told.2 items told.5)

pub returns-in-None-clause-step : goal.returns-in-None-clause-step
returns-in-None-clause-step g c =
    let items = c.args.history.now.items in
    let told = c.in-None.ensures.applied items c.open_item.ensures.items in
    let goes =
    kept_goes_back (64 * g.row.W) IsCograph c.args.graph.now c.apply_edits.new.graph c.args.edits.now told.0 (length c.args.edits.now) (words_few g.row.W c.vertices-vertices.ensures.limit)
    c.vertices-vertices.ensures.graph c.vertices-vertices.ensures.below c.requires.cograph c.requires.names told.1 in
    led_step (64 * g.row.W) Quiet c.args.graph.now items (Group c.args.edits.now) applied_quiet c.apply_edits.new.graph _ told.0
    ((whole_line Quiet c.args.graph.now c.apply_edits.new.graph c.args.edits.now told.0 (length c.args.edits.now) applied_quiet told.1 refl).1 refl)
    refl (ap (led_to (state_of c.args.graph.now items)) (sym (all_graph IsCograph c.args.graph.now c.apply_edits.new.graph c.args.edits.now told.0 told.1))) goes told.2 c.requires.fits
