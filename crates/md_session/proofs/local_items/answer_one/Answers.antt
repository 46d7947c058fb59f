use Rattle.std.proofs.Common.{◌*◌, [], refl, sym, ◌∙◌, ap, subst, rules}
use Rattle.md_graph.specs.PlainGraph.{PlainGraph, adjacent}
use Rattle.md_tree.specs.StrongTrees.{IsTree}
use Rattle.md_tree.specs.Plain.{plain_option}
use Rattle.md_script.specs.declared.item.Item.TheVariants.{One}
use Rattle.md_script.specs.Pasts.{AnyGraph}
use Rattle.md_script.proofs.BackLemmas.{back_gives}
use Rattle.md_script.proofs.GroupLemmas.{one_goes_back}
use Rattle.md_report.specs.declared.line.SessionMode.TheVariants.{Edit}
use Rattle.md_report.specs.Sessions.{led_to}
use Rattle.md_report.specs.Steps.{state_of}
use Rattle.md_report.proofs.Stepping.{led_step}
use Rattle.md_session.proofs.AppliedSteps.{applied_step}
use Rattle.md_session.proofs.KeptTrees.{if_ends, few_steps}
use Rattle.md_session.proofs.local_items.answer_one.Goals as goal

pub new_tree-requires : goal.new_tree-requires
new_tree-requires g c =
    (search rules, if_ends c.args.graph.now c.apply.new.graph c.args.edit.now (plain_option c.args.tree.now) c.vertices-vertices.ensures.graph (sym c.reason.ensures ∙ c.in_default.is) c.apply.ensures c.requires.tree c.edge_of.result c.edge_of.ensures)

pub returns-in-Ok-clause-step : goal.returns-in-Ok-clause-step
returns-in-Ok-clause-step g c = λ t tree.
    let before = c.args.graph.now in
    let items = c.args.history.now.items in
    led_step (64 * g.row.W) Edit before items (One c.args.edit.now) _ c.apply.new.graph _ _
    (applied_step before before c.apply.new.graph c.args.edit.now t refl (sym c.reason.ensures ∙ c.in_default.is) c.apply.ensures tree).line_is
    refl (ap (led_to (state_of before items)) (sym c.apply.ensures))
    (one_goes_back (64 * g.row.W) AnyGraph before c.apply.new.graph c.args.edit.now _ tt c.inverse-past.ensures.back c.apply.ensures)
    (c.push.ensures.items [] items c.open_item.ensures.items) c.requires.fits

pub returns-in-Ok-clause-work : goal.returns-in-Ok-clause-work
returns-in-Ok-clause-work g c =
    few_steps c.args.graph.now c.apply.new.graph c.args.edit.now (plain_option c.args.tree.now) c.vertices-vertices.ensures.graph (sym c.reason.ensures ∙ c.in_default.is) c.apply.ensures c.requires.tree c.edge_of.result c.args.work.now c.new_tree.new.work
    c.edge_of.ensures c.new_tree.ensures.work

pub returns-clause-tree : goal.returns-clause-tree
returns-clause-tree g c =
    let home = back_gives c.args.graph.now c.apply.new.graph c.take_back.new.graph c.args.edit.now _ c.inverse-past.ensures.back c.apply.ensures c.take_back.ensures in
    subst (λ (k : PlainGraph). IsTree (adjacent k) k.vertices (plain_option c.args.tree.now)) (sym home) c.requires.tree

pub returns-clause-work : goal.returns-clause-work
returns-clause-work g c =
    few_steps c.args.graph.now c.apply.new.graph c.args.edit.now (plain_option c.args.tree.now) c.vertices-vertices.ensures.graph (sym c.reason.ensures ∙ c.in_default.is) c.apply.ensures c.requires.tree c.edge_of.result c.args.work.now c.new_tree.new.work
    c.edge_of.ensures c.new_tree.ensures.work
