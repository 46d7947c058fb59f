-- The text of the line of an item by the answer to it.
use Rattle.std.proofs.Common.{◌≤◌, ◌*◌, ℕ, List, rules, refl, sym, subst}
use Rattle.md_script.specs.declared.edit.Edit.{Edit}
use Rattle.md_script.specs.Histories.{HistoryFits}
use Rattle.md_report.specs.Cographs.{IsCograph}
use Rattle.md_session.specs.declared.cograph_items.ItemAnswer.TheVariants as answers
use Rattle.md_session.specs.Answers.{answer_line}
use Rattle.md_tree.proofs.Stacking.{if_ok}
use Rattle.md_top.specs.CographModes.{cograph_mode}
use Rattle.md_top.proofs.FromCographs.{cograph_kept}
use Rattle.md_top.proofs.ToldLines.{refusal_answers, done_answers, state_told}
use Rattle.md_top.proofs.cographs.item_text.Goals as goal

pub apply_item-requires : goal.apply_item-requires
apply_item-requires g c =
    let room = subst (λ (n : ℕ). n ≤ c.reserve.new.self.spare) c.room.ensures.room c.in_ok-reserve.ensures.room in
    let fits = subst (λ (items : List (List Edit)). HistoryFits (64 * g.row.W) IsCograph c.args.session.now items) (sym c.reserve.ensures.items) c.requires.fits in
    (search rules, (search rules, (c.requires.names, (room, fits))))

pub returns-in-Applied-clause-text : goal.returns-in-Applied-clause-text
returns-in-Applied-clause-text g c =
    if_ok c.applied_text.result
    (λ text told. (
      told.0,
      told.1,
      done_answers (cograph_mode c.args.told) (cograph_kept c.args.told) _ told.0 _ _ _ _ _ _ _ c.reserve.ensures.items c.in-Applied.ensures.step refl told.2 told.3,
      state_told _ told.0 _ _ _ _ _ _ _ c.reserve.ensures.items c.in-Applied.ensures.step (sym told.3),
    ))
    c.applied_text.ensures

pub returns-in-Refused-clause-text : goal.returns-in-Refused-clause-text
returns-in-Refused-clause-text g c =
    if_ok c.refusal_text.result
    (λ text is. (
      answer_line (answers.Refused c.in-Refused.reason),
      is,
      refusal_answers (cograph_mode c.args.told) (cograph_kept c.args.told) (answer_line (answers.Refused c.in-Refused.reason)) _ _ _ _ _ _ _ c.reserve.ensures.items c.in-Refused.ensures.step refl,
      state_told (answer_line (answers.Refused c.in-Refused.reason)) (answer_line (answers.Refused c.in-Refused.reason)) _ _ _ _ _ _ _ c.reserve.ensures.items c.in-Refused.ensures.step refl,
    ))
    c.refusal_text.ensures

pub returns-in-RefusedP4-clause-text : goal.returns-in-RefusedP4-clause-text
returns-in-RefusedP4-clause-text g c =
    if_ok c.refusal_text-in-RefusedP4.result
    (λ text is. (
      answer_line (answers.RefusedP4 c.in-RefusedP4.p),
      is,
      refusal_answers (cograph_mode c.args.told) (cograph_kept c.args.told) (answer_line (answers.RefusedP4 c.in-RefusedP4.p)) _ _ _ _ _ _ _ c.reserve.ensures.items c.in-RefusedP4.ensures.step refl,
      state_told (answer_line (answers.RefusedP4 c.in-RefusedP4.p)) (answer_line (answers.RefusedP4 c.in-RefusedP4.p)) _ _ _ _ _ _ _ c.reserve.ensures.items c.in-RefusedP4.ensures.step refl,
    ))
    c.refusal_text-in-RefusedP4.ensures

pub returns-in-GroupRefused-clause-text : goal.returns-in-GroupRefused-clause-text
returns-in-GroupRefused-clause-text g c =
    if_ok c.refusal_text-in-GroupRefused.result
    (λ text is. (
      answer_line (answers.GroupRefused c.in-GroupRefused.number c.in-GroupRefused.reason),
      is,
      refusal_answers (cograph_mode c.args.told) (cograph_kept c.args.told) (answer_line (answers.GroupRefused c.in-GroupRefused.number c.in-GroupRefused.reason)) _ _ _ _ _ _ _ c.reserve.ensures.items c.in-GroupRefused.ensures.step refl,
      state_told (answer_line (answers.GroupRefused c.in-GroupRefused.number c.in-GroupRefused.reason)) (answer_line (answers.GroupRefused c.in-GroupRefused.number c.in-GroupRefused.reason)) _ _ _ _ _ _ _ c.reserve.ensures.items c.in-GroupRefused.ensures.step refl,
    ))
    c.refusal_text-in-GroupRefused.ensures

pub returns-in-GroupRefusedP4-clause-text : goal.returns-in-GroupRefusedP4-clause-text
returns-in-GroupRefusedP4-clause-text g c =
    if_ok c.refusal_text-in-GroupRefusedP4.result
    (λ text is. (
      answer_line (answers.GroupRefusedP4 c.in-GroupRefusedP4.number c.in-GroupRefusedP4.p),
      is,
      refusal_answers (cograph_mode c.args.told) (cograph_kept c.args.told) (answer_line (answers.GroupRefusedP4 c.in-GroupRefusedP4.number c.in-GroupRefusedP4.p)) _ _ _ _ _ _ _ c.reserve.ensures.items c.in-GroupRefusedP4.ensures.step refl,
      state_told (answer_line (answers.GroupRefusedP4 c.in-GroupRefusedP4.number c.in-GroupRefusedP4.p)) (answer_line (answers.GroupRefusedP4 c.in-GroupRefusedP4.number c.in-GroupRefusedP4.p)) _ _ _ _ _ _ _ c.reserve.ensures.items c.in-GroupRefusedP4.ensures.step refl,
    ))
    c.refusal_text-in-GroupRefusedP4.ensures

pub returns-in-NothingToUndo-clause-text : goal.returns-in-NothingToUndo-clause-text
returns-in-NothingToUndo-clause-text g c =
    if_ok c.refusal_text-in-NothingToUndo.result
    (λ text is. (
      answer_line answers.NothingToUndo,
      is,
      refusal_answers (cograph_mode c.args.told) (cograph_kept c.args.told) (answer_line answers.NothingToUndo) _ _ _ _ _ _ _ c.reserve.ensures.items c.in-NothingToUndo.ensures.step refl,
      state_told (answer_line answers.NothingToUndo) (answer_line answers.NothingToUndo) _ _ _ _ _ _ _ c.reserve.ensures.items c.in-NothingToUndo.ensures.step refl,
    ))
    c.refusal_text-in-NothingToUndo.ensures
