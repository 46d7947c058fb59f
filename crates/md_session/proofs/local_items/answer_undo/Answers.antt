use Rattle.std.proofs.Common.{◌*◌, refl, sym, ◌∙◌, ap, subst, rules}
use Rattle.md_graph.specs.PlainGraph.{PlainGraph, adjacent}
use Rattle.md_tree.specs.StrongTrees.{IsTree}
use Rattle.md_tree.specs.Plain.{plain_option}
use Rattle.md_script.specs.Pasts.{taken_back, AnyGraph, MayBack}
use Rattle.md_report.specs.declared.line.SessionMode.TheVariants.{Edit}
use Rattle.md_report.specs.Lines.{applied}
use Rattle.md_report.proofs.Stepping.{undone_step, last_item}
use Rattle.md_session.proofs.local_items.answer_undo.Goals as goal

pub tree_before-requires : goal.tree_before-requires
tree_before-requires g c =
    let last = last_item (64 * g.row.W) AnyGraph c.args.graph.now c.args.history.now.items c.items.result c.items.ensures c.if-items-eq0.false c.requires.fits in
    (search rules, (search rules, (c.requires.tree, last)))

pub returns-in_err-new-clause-tree : goal.returns-in_err-new-clause-tree
returns-in_err-new-clause-tree g c = subst (λ (k : PlainGraph). IsTree (adjacent k) k.vertices (plain_option c.args.tree.now)) (sym c.tree_before.ensures.stays) c.requires.tree

pub take_item_back-requires : goal.take_item_back-requires
take_item_back-requires g c =
    let last = last_item (64 * g.row.W) AnyGraph c.args.graph.now c.args.history.now.items c.items.result c.items.ensures c.if-items-eq0.false c.requires.fits in
    (search rules, (search rules, (last.0, last.1, last.2, subst (λ (k : PlainGraph). MayBack (64 * g.row.W) AnyGraph k last.0) (sym c.tree_before.ensures.stays) last.3)))

pub returns-clause-step : goal.returns-clause-step
returns-clause-step g c = λ t tree.
    let before = c.args.graph.now in
    let items = c.args.history.now.items in
    let last = last_item (64 * g.row.W) AnyGraph before items c.items.result c.items.ensures c.if-items-eq0.false c.requires.fits in
    let back = c.take_item_back.ensures.graph last.0 last.1 last.2 ∙ ap (λ (k : PlainGraph). taken_back k last.0) c.tree_before.ensures.stays in
    undone_step (64 * g.row.W) Edit before items last.0 last.1 _ c.take_item_back.new.graph _ last.2
    (t, subst (λ (k : PlainGraph). IsTree (adjacent k) k.vertices t) back tree, refl)
    refl back (c.take_item_back.ensures.items last.0 last.1 last.2) c.requires.fits

pub returns-clause-tree : goal.returns-clause-tree
returns-clause-tree g c =
    let last = last_item (64 * g.row.W) AnyGraph c.args.graph.now c.args.history.now.items c.items.result c.items.ensures c.if-items-eq0.false c.requires.fits in
    let back = c.take_item_back.ensures.graph last.0 last.1 last.2 ∙ ap (λ (k : PlainGraph). taken_back k last.0) c.tree_before.ensures.stays in
    subst (λ (k : PlainGraph). IsTree (adjacent k) k.vertices (plain_option c.in_ok-new.new.tree)) (sym back) (c.in_ok-new.ensures.tree last.0 last.1 last.2).tree

pub returns-clause-copy : goal.returns-clause-copy
returns-clause-copy g c = λ yes.
    let last = last_item (64 * g.row.W) AnyGraph c.args.graph.now c.args.history.now.items c.items.result c.items.ensures c.if-items-eq0.false c.requires.fits in
    ap applied ((c.in_ok-new.ensures.tree last.0 last.1 last.2).copy yes)
