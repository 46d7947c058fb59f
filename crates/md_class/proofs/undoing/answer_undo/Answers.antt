use Rattle.std.proofs.Common.{◌*◌, ◌≤◌, refl, sym, ◌∙◌, ap, subst, rules}
use Rattle.md_tree.specs.StrongTrees.{IsTree}
use Rattle.md_graph.specs.PlainGraph.{PlainGraph, adjacent}
use Rattle.md_script.specs.Pasts.{taken_back, MayBack}
use Rattle.md_script.proofs.GroupLemmas.{back_kept}
use Rattle.md_report.specs.Cographs.{IsCograph}
use Rattle.md_report.specs.Lines.{applied}
use Rattle.md_report.proofs.Stepping.{undone_step, last_item}
use Rattle.md_report.specs.Classes.{IsAllowedIn}
use Rattle.md_report.specs.declared.line.SessionMode.TheVariants.{Of}
use Rattle.md_class.proofs.undoing.answer_undo.Goals as goal

pub told_before-requires : goal.told_before-requires
told_before-requires g c =
    let last = last_item (64 * g.row.W) IsCograph c.args.graph.now c.args.history.now.items c.items.result c.items.ensures c.if-items-eq0.false c.requires.fits in
    (search rules, (search rules, (c.requires.denotes, (c.requires.near, last))))

pub take_back_item-requires : goal.take_back_item-requires
take_back_item-requires g c =
    let last = last_item (64 * g.row.W) IsCograph c.args.graph.now c.args.history.now.items c.items.result c.items.ensures c.if-items-eq0.false c.requires.fits in (
      search rules,
      (
        search rules,
        (
          c.told_before.ensures.denotes,
          (
            subst (λ n. 64 * g.row.W ≤ n) (sym c.told_before.ensures.near) c.requires.near,
            (last.0, last.1, last.2, subst (λ (k : PlainGraph). MayBack (64 * g.row.W) IsCograph k last.0) (sym c.told_before.ensures.stays) last.3),
          ),
        ),
      ),
    )

pub returns-clause-step : goal.returns-clause-step
returns-clause-step g c = λ class fits.
    let before = c.args.graph.now in
    let items = c.args.history.now.items in
    let last = last_item (64 * g.row.W) (IsAllowedIn class) before items c.items.result c.items.ensures c.if-items-eq0.false fits in
    let so = c.in_ok-before.ensures.told last.0 last.1 last.2 in
    let is = c.take_back_item.ensures.graph last.0 last.1 last.2 ∙ ap (λ (k : PlainGraph). taken_back k last.0) c.told_before.ensures.stays in (
      so.0,
      subst (λ (k : PlainGraph). IsTree (adjacent k) k.vertices so.0) (sym is) so.1,
      so.2,
      undone_step (64 * g.row.W) (Of class) before items last.0 last.1 (applied so.0) c.take_back_item.new.graph _ last.2 (so.0, so.1, refl) refl is (c.take_back_item.ensures.items last.0 last.1 last.2) fits,
    )

pub returns-clause-allowed : goal.returns-clause-allowed
returns-clause-allowed g c = λ class allowed fits.
    let last = last_item (64 * g.row.W) (IsAllowedIn class) c.args.graph.now c.args.history.now.items c.items.result c.items.ensures c.if-items-eq0.false fits in
    subst (IsAllowedIn class) (sym (c.take_back_item.ensures.graph last.0 last.1 last.2 ∙ ap (λ (k : PlainGraph). taken_back k last.0) c.told_before.ensures.stays))
    (back_kept (64 * g.row.W) (IsAllowedIn class) c.args.graph.now last.0 allowed last.3)
