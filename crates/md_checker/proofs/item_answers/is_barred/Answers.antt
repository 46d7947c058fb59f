use Rattle.std.proofs.Common.{sym, ◌∙◌, subst, rules}
use Rattle.md_report.specs.declared.line.SessionMode.{SessionMode}
use Rattle.md_report.specs.ItemLines.{IsAllowed}
use Rattle.md_report.specs.Made.{HasChange}
use Rattle.md_report.proofs.MadePaths.{shown}
use Rattle.md_checker.proofs.Judged.{some_bars}
use Rattle.md_checker.proofs.item_answers.is_barred.Goals as goal

pub made_p4-requires : goal.made_p4-requires
made_p4-requires g c = let led = c.requires.1 in (search rules, subst (λ h. HasChange h c.args.edit.now) (sym led.next_is) (shown c.requires.0 c.args.edit.now led.no_reason))

pub made_p4-requires-in-Quiet : goal.made_p4-requires-in-Quiet
made_p4-requires-in-Quiet g c = let led = c.requires.1 in (search rules, subst (λ h. HasChange h c.args.edit.now) (sym led.next_is) (shown c.requires.0 c.args.edit.now led.no_reason))

pub returns-in-Cograph-clause-barred : goal.returns-in-Cograph-clause-barred
returns-in-Cograph-clause-barred g c = λ is allowed.
    some_bars c.made_p4.result c.args.graph.now _ c.made_p4.ensures.found (sym c.is_some.ensures ∙ is) (subst (λ (m : SessionMode). IsAllowed m c.args.graph.now) c.in-Cograph.is allowed)

pub returns-in-Quiet-clause-barred : goal.returns-in-Quiet-clause-barred
returns-in-Quiet-clause-barred g c = λ is allowed.
    some_bars c.made_p4-in-Quiet.result c.args.graph.now _ c.made_p4-in-Quiet.ensures.found (sym c.is_some-in-Quiet.ensures ∙ is) (subst (λ (m : SessionMode). IsAllowed m c.args.graph.now) c.in-Quiet.is allowed)

pub makes_bar-requires : goal.makes_bar-requires
makes_bar-requires g c =
    let r = c.requires in (search rules, (r.0, r.1, subst (λ (m : SessionMode). IsAllowed m r.0) c.in-Of.is r.2))

pub returns-in-Of-clause-barred : goal.returns-in-Of-clause-barred
returns-in-Of-clause-barred g c = λ is allowed. c.makes_bar.ensures.barred is (subst (λ (m : SessionMode). IsAllowed m c.args.graph.now) c.in-Of.is allowed)

pub returns-in-Of-clause-allowed : goal.returns-in-Of-clause-allowed
returns-in-Of-clause-allowed g c = λ none. rw c.in-Of.is (c.makes_bar.ensures.allowed none)
