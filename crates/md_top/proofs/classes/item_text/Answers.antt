-- Making room keeps the items of the history.
use Rattle.std.proofs.Common.{◌≤◌, ◌*◌, ℕ, List, rules, ◌∙◌, sym, subst}
use Rattle.md_graph.specs.PlainGraph.{PlainGraph, adjacent}
use Rattle.md_script.specs.declared.edit.Edit.{Edit}
use Rattle.md_script.specs.Histories.{HistoryFits}
use Rattle.md_report.specs.declared.line.SessionMode.TheVariants.{Of}
use Rattle.md_report.specs.Classes.{IsAllowedIn}
use Rattle.md_report.specs.Lines.{applied}
use Rattle.md_report.specs.Steps.{ItemStep}
use Rattle.md_tree.specs.StrongTrees.{IsTree}
use Rattle.md_tree.proofs.Stacking.{if_ok}
use Rattle.md_class.specs.declared.answers.ClassAnswer.{ClassAnswer}
use Rattle.md_class.specs.ItemAnswers.{IsClassAnswer}
use Rattle.md_top.proofs.classes.item_text.Goals as goal

pub answer_item-requires : goal.answer_item-requires
answer_item-requires g c =
    let room = subst (λ (n : ℕ). n ≤ c.reserve.new.self.spare) c.room.ensures.room c.in_ok-reserve.ensures.room in
    let fits = subst (λ (items : List (List Edit)). HistoryFits (64 * g.row.W) (IsAllowedIn c.args.session.now.class) c.args.session.now.graph items) (sym c.reserve.ensures.items) c.requires.fits in
    (search rules, (search rules, (c.requires.names, (room, fits))))

pub applied_text_by_rows-requires : goal.applied_text_by_rows-requires
applied_text_by_rows-requires g c =
    let told =
    subst (λ (a : ClassAnswer). IsClassAnswer (64 * g.row.W) c.args.session.now.class c.args.session.now.graph c.reserve.new.self.items c.args.item.now a c.answer_item.new.self.graph c.answer_item.new.history.items) c.in-Applied.is
    c.in_ok-parts.ensures.step in
    let is = subst (λ (k : PlainGraph). IsTree (adjacent k) k.vertices told.0) (sym c.graph.ensures.value) told.1 in
    (search rules, (told.0, is, c.deref.ensures.value ∙ told.2))

pub returns-in-Applied-clause-line : goal.returns-in-Applied-clause-line
returns-in-Applied-clause-line g c =
    let told =
    subst (λ (a : ClassAnswer). IsClassAnswer (64 * g.row.W) c.args.session.now.class c.args.session.now.graph c.reserve.new.self.items c.args.item.now a c.answer_item.new.self.graph c.answer_item.new.history.items) c.in-Applied.is
    c.in_ok-parts.ensures.step in
    let is = subst (λ (k : PlainGraph). IsTree (adjacent k) k.vertices told.0) (sym c.graph.ensures.value) told.1 in
    if_ok c.applied_text_by_rows.result
    (λ text fed. (
      applied told.0,
      fed,
      subst (λ (items : List (List Edit)). ItemStep (64 * g.row.W) (Of c.args.session.now.class) c.args.session.now.graph items c.args.item.now (applied told.0) c.answer_item.new.self.graph c.answer_item.new.history.items)
          c.reserve.ensures.items told.3,
    ))
    (c.applied_text_by_rows.ensures told.0 is (c.deref.ensures.value ∙ told.2))
