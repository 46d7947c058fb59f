-- Making room keeps the items of the history.
use Rattle.std.proofs.Common.{◌≤◌, ◌*◌, ℕ, List, rules, sym, subst}
use Rattle.md_script.specs.declared.edit.Edit.{Edit}
use Rattle.md_script.specs.Histories.{HistoryFits}
use Rattle.md_script.specs.Pasts.{AnyGraph}
use Rattle.md_report.specs.declared.line.SessionMode.TheVariants as modes
use Rattle.md_report.specs.Steps.{ItemStep}
use Rattle.md_session.specs.LocalSteps.{line_of_answer}
use Rattle.md_tree.proofs.Stacking.{if_ok}
use Rattle.md_top.proofs.session.item_text.Goals as goal

pub answer_item-requires : goal.answer_item-requires
answer_item-requires g c =
    let room = subst (λ (n : ℕ). n ≤ c.reserve.new.self.spare) c.room.ensures.room c.in_ok-reserve.ensures.room in
    let fits = subst (λ (items : List (List Edit)). HistoryFits (64 * g.row.W) AnyGraph c.args.session.now items) (sym c.reserve.ensures.items) c.requires.fits in
    (search rules, (search rules, (c.requires.names, (room, fits))))

pub returns : goal.returns
returns g c =
    if_ok c.answer_text.result
    (λ text told. (
      line_of_answer c.in_ok-answer.answer told.0,
      told.2,
      subst (λ (items : List (List Edit)). ItemStep (64 * g.row.W) modes.Edit c.args.session.now items c.args.item.now (line_of_answer c.in_ok-answer.answer told.0) c.answer_item.new.self c.answer_item.new.history.items)
          c.reserve.ensures.items (c.in_ok-answer.ensures.step told.0 told.1),
    ))
    c.answer_text.ensures
