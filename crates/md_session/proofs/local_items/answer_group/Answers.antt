use Rattle.std.proofs.Common.{◌*◌, length, refl, sym, ◌∙◌, ap, subst, rules}
use Rattle.md_graph.specs.PlainGraph.{PlainGraph, adjacent}
use Rattle.md_tree.specs.StrongTrees.{IsTree}
use Rattle.md_graph.proofs.Limits.{words_few}
use Rattle.md_tree.specs.Plain.{plain_option}
use Rattle.md_script.specs.declared.item.Item.TheVariants.{Group}
use Rattle.md_script.specs.Pasts.{AnyGraph}
use Rattle.md_script.proofs.GroupLemmas.{kept_goes_back}
use Rattle.md_report.specs.declared.line.SessionMode.TheVariants.{Edit}
use Rattle.md_report.specs.Lines.{group_refused, applied}
use Rattle.md_report.specs.Sessions.{led_to}
use Rattle.md_report.proofs.Groups.{whole_line, stopped_line}
use Rattle.md_report.specs.Steps.{state_of}
use Rattle.md_report.proofs.Stepping.{refused_step, led_step, all_graph}
use Rattle.md_session.proofs.local_items.answer_group.Goals as goal

pub take_item_back-requires : goal.take_item_back-requires
take_item_back-requires g c =
    let told = c.in-Some.ensures.refused c.args.history.now.items c.open_item.ensures.items in
    let goes =
    kept_goes_back (64 * g.row.W) AnyGraph c.args.graph.now c.apply_all.new.graph c.args.edits.now told.2 told.0 (words_few g.row.W c.vertices-vertices.ensures.limit)
    c.vertices-vertices.ensures.graph c.vertices-vertices.ensures.below tt c.requires.names told.6 in
    (search rules, (search rules, (told.2, c.args.history.now.items, told.7, goes.may)))

pub returns-in-Some-clause-step : goal.returns-in-Some-clause-step
returns-in-Some-clause-step g c = λ t tree.
    let items = c.args.history.now.items in
    let told = c.in-Some.ensures.refused items c.open_item.ensures.items in
    let goes =
    kept_goes_back (64 * g.row.W) AnyGraph c.args.graph.now c.apply_all.new.graph c.args.edits.now told.2 told.0 (words_few g.row.W c.vertices-vertices.ensures.limit)
    c.vertices-vertices.ensures.graph c.vertices-vertices.ensures.below tt c.requires.names told.6 in
    refused_step (64 * g.row.W) Edit c.args.graph.now items (Group c.args.edits.now) _ c.take_item_back.new.graph _
    ((stopped_line Edit c.args.graph.now c.apply_all.new.graph c.args.edits.now told.2 told.0 (group_refused c.in-Some.number c.in-Some.reason) told.6 told.1 told.4 c.in-Some.reason told.5).1
    (ap (λ n. group_refused n c.in-Some.reason) told.3))
    refl (c.take_item_back.ensures.graph told.2 items told.7 ∙ goes.leads) (c.take_item_back.ensures.items told.2 items told.7) c.requires.fits

pub returns-in-Ok-clause-step : goal.returns-in-Ok-clause-step
returns-in-Ok-clause-step g c = λ t tree.
    let items = c.args.history.now.items in
    let told = c.in_default.ensures.applied items c.open_item.ensures.items in
    let goes =
    kept_goes_back (64 * g.row.W) AnyGraph c.args.graph.now c.apply_all.new.graph c.args.edits.now told.0 (length c.args.edits.now) (words_few g.row.W c.vertices-vertices.ensures.limit)
    c.vertices-vertices.ensures.graph c.vertices-vertices.ensures.below tt c.requires.names told.1 in
    led_step (64 * g.row.W) Edit c.args.graph.now items (Group c.args.edits.now) _ c.apply_all.new.graph _ told.0
    ((whole_line Edit c.args.graph.now c.apply_all.new.graph c.args.edits.now told.0 (length c.args.edits.now) (applied t) told.1 refl).1
    (t, tree, refl))
    refl (ap (led_to (state_of c.args.graph.now items)) (sym (all_graph AnyGraph c.args.graph.now c.apply_all.new.graph c.args.edits.now told.0 told.1))) goes told.2 c.requires.fits

pub take_item_back-requires-2 : goal.take_item_back-requires-2
take_item_back-requires-2 g c =
    let told = c.in_default.ensures.applied c.args.history.now.items c.open_item.ensures.items in
    let goes =
    kept_goes_back (64 * g.row.W) AnyGraph c.args.graph.now c.apply_all.new.graph c.args.edits.now told.0 (length c.args.edits.now) (words_few g.row.W c.vertices-vertices.ensures.limit)
    c.vertices-vertices.ensures.graph c.vertices-vertices.ensures.below tt c.requires.names told.1 in
    (search rules, (search rules, (told.0, c.args.history.now.items, told.2, goes.may)))

pub returns-clause-stays : goal.returns-clause-stays
returns-clause-stays g c = λ fails.
    let told = c.in_default.ensures.applied c.args.history.now.items c.open_item.ensures.items in
    let goes =
    kept_goes_back (64 * g.row.W) AnyGraph c.args.graph.now c.apply_all.new.graph c.args.edits.now told.0 (length c.args.edits.now) (words_few g.row.W c.vertices-vertices.ensures.limit)
    c.vertices-vertices.ensures.graph c.vertices-vertices.ensures.below tt c.requires.names told.1 in
    c.take_item_back-2.ensures.graph told.0 c.args.history.now.items told.2 ∙ goes.leads

pub returns-in-Some-clause-tree : goal.returns-in-Some-clause-tree
returns-in-Some-clause-tree g c =
    let items = c.args.history.now.items in
    let told = c.in-Some.ensures.refused items c.open_item.ensures.items in
    let goes =
    kept_goes_back (64 * g.row.W) AnyGraph c.args.graph.now c.apply_all.new.graph c.args.edits.now told.2 told.0 (words_few g.row.W c.vertices-vertices.ensures.limit)
    c.vertices-vertices.ensures.graph c.vertices-vertices.ensures.below tt c.requires.names told.6 in
    subst (λ (k : PlainGraph). IsTree (adjacent k) k.vertices (plain_option c.args.tree.now)) (sym (c.take_item_back.ensures.graph told.2 items told.7 ∙ goes.leads)) c.requires.tree

pub returns-clause-tree : goal.returns-clause-tree
returns-clause-tree g c =
    let told = c.in_default.ensures.applied c.args.history.now.items c.open_item.ensures.items in
    let goes =
    kept_goes_back (64 * g.row.W) AnyGraph c.args.graph.now c.apply_all.new.graph c.args.edits.now told.0 (length c.args.edits.now) (words_few g.row.W c.vertices-vertices.ensures.limit)
    c.vertices-vertices.ensures.graph c.vertices-vertices.ensures.below tt c.requires.names told.1 in
    subst (λ (k : PlainGraph). IsTree (adjacent k) k.vertices (plain_option c.args.tree.now)) (sym (c.take_item_back-2.ensures.graph told.0 c.args.history.now.items told.2 ∙ goes.leads)) c.requires.tree
