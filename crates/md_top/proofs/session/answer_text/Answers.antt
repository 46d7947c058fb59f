use Rattle.std.proofs.Common.{◌∙◌, sym, ap}
use Rattle.md_tree.specs.Plain.{plain_option}
use Rattle.md_tree.proofs.Stacking.{if_ok}
use Rattle.md_report.specs.Lines.{fed_line, applied, refused, group_refused, nothing_to_undo}
use Rattle.md_session.specs.LocalSteps.{line_of_answer}
use Rattle.md_top.proofs.session.answer_text.Goals as goal

pub returns-in_ok-write_applied-in-Applied : goal.returns-in_ok-write_applied-in-Applied
returns-in_ok-write_applied-in-Applied g c =
    let t = plain_option c.kept_tree-kept.result.now in
    if_ok c.with_feed.result (λ whole is. (t, c.kept_tree-kept.ensures, is ∙ ap (λ a. fed_line (line_of_answer a t)) (sym c.in-Applied.is)))
    (c.with_feed.ensures (applied t) c.in_ok-write_applied-in-Applied.ensures)

pub returns-in_ok-write_line-in-Refused : goal.returns-in_ok-write_line-in-Refused
returns-in_ok-write_line-in-Refused g c =
    let t = plain_option c.kept_tree-kept.result.now in
    if_ok c.with_feed-in-Refused.result (λ whole is. (t, c.kept_tree-kept.ensures, is ∙ ap (λ a. fed_line (line_of_answer a t)) (sym c.in-Refused.is)))
    (c.with_feed-in-Refused.ensures (refused c.in-Refused.reason) c.in_ok-write_line-in-Refused.ensures)

pub returns-in_ok-write_line-in-GroupRefused : goal.returns-in_ok-write_line-in-GroupRefused
returns-in_ok-write_line-in-GroupRefused g c =
    let t = plain_option c.kept_tree-kept.result.now in
    if_ok c.with_feed-in-GroupRefused.result (λ whole is. (t, c.kept_tree-kept.ensures, is ∙ ap (λ a. fed_line (line_of_answer a t)) (sym c.in-GroupRefused.is)))
    (c.with_feed-in-GroupRefused.ensures (group_refused c.in-GroupRefused.number c.in-GroupRefused.reason) c.in_ok-write_line-in-GroupRefused.ensures)

pub returns-in_ok-write_line-in-NothingToUndo : goal.returns-in_ok-write_line-in-NothingToUndo
returns-in_ok-write_line-in-NothingToUndo g c =
    let t = plain_option c.kept_tree-kept.result.now in
    if_ok c.with_feed-in-NothingToUndo.result (λ whole is. (t, c.kept_tree-kept.ensures, is ∙ ap (λ a. fed_line (line_of_answer a t)) (sym c.in-NothingToUndo.is)))
    (c.with_feed-in-NothingToUndo.ensures (nothing_to_undo) c.in_ok-write_line-in-NothingToUndo.ensures)
