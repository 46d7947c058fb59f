use Rattle.std.proofs.Common.{◌*◌, refl, sym, ◌∙◌, ap, subst, rules}
use Rattle.md_tree.specs.Plain.{plain_option}
use Rattle.md_graph.specs.PlainGraph.{PlainGraph}
use Rattle.md_script.specs.Pasts.{taken_back, AnyGraph, MayBack}
use Rattle.md_report.specs.declared.line.SessionMode.TheVariants.{Edit}
use Rattle.md_report.proofs.Stepping.{undone_step, last_item}
use Rattle.md_session.proofs.general_items.undo.Goals as goal

pub tree_before-requires : goal.tree_before-requires
tree_before-requires g c =
    let last = last_item (64 * g.row.W) AnyGraph c.args.graph.now c.args.history.now.items c.items.result c.items.ensures c.if-items-eq0.false c.requires in
    (search rules, (search rules, last))

pub take_item_back-requires : goal.take_item_back-requires
take_item_back-requires g c =
    let last = last_item (64 * g.row.W) AnyGraph c.args.graph.now c.args.history.now.items c.items.result c.items.ensures c.if-items-eq0.false c.requires in
    (search rules, (search rules, (last.0, last.1, last.2, subst (λ (k : PlainGraph). MayBack (64 * g.row.W) AnyGraph k last.0) (sym c.in_ok-tree.ensures.stays) last.3)))

pub returns-clause-step : goal.returns-clause-step
returns-clause-step g c =
    let before = c.args.graph.now in
    let items = c.args.history.now.items in
    let last = last_item (64 * g.row.W) AnyGraph before items c.items.result c.items.ensures c.if-items-eq0.false c.requires in
    undone_step (64 * g.row.W) Edit before items last.0 last.1 _ c.take_item_back.new.graph _ last.2
    (plain_option c.in_ok-tree.tree, c.in_ok-tree.ensures.tree last.0 last.1 last.2, refl)
    refl
    (c.take_item_back.ensures.graph last.0 last.1 last.2 ∙ ap (λ (k : PlainGraph). taken_back k last.0) c.in_ok-tree.ensures.stays)
    (c.take_item_back.ensures.items last.0 last.1 last.2) c.requires
