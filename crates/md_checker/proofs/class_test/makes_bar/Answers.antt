use Rattle.std.proofs.Common.{sym, ◌∙◌, subst, rules}
use Rattle.md_graph.proofs.Limits.{words_few}
use Rattle.md_report.specs.Cographs.{IsCograph}
use Rattle.md_report.specs.Made.{HasChange}
use Rattle.md_report.proofs.MadePaths.{shown}
use Rattle.md_report.proofs.AllowedGraphs.{allowed_cograph}
use Rattle.md_checker.proofs.ClassEdits.{when_none, allowed_added, allowed_gone, allowed_new, allowed_left}
use Rattle.md_checker.proofs.Judged.{some_bars}
use Rattle.md_checker.proofs.class_test.makes_bar.Goals as goal

pub made_p4-requires : goal.made_p4-requires
made_p4-requires g c = let led = c.requires.1 in (search rules, subst (λ h. HasChange h c.args.edit.now) (sym led.next_is) (shown c.requires.0 c.args.edit.now led.no_reason))

pub returns-then-is_some-clause-barred : goal.returns-then-is_some-clause-barred
returns-then-is_some-clause-barred g c = λ told allowed.
    some_bars c.made_p4.result c.args.graph.now _ c.made_p4.ensures.found (sym c.is_some.ensures ∙ c.if-is_some.true) (allowed_cograph c.args.class c.args.graph.now allowed)

pub has_bar_at-requires : goal.has_bar_at-requires
has_bar_at-requires g c =
    let led = c.requires.1 in
    let change = subst (λ h. HasChange h c.args.edit.now) (sym led.next_is) (shown c.requires.0 c.args.edit.now led.no_reason) in
    (search rules, (subst (HasChange c.args.graph.now) c.in-AddEdge.is change).0)

pub has_bar_at-requires-in-DelEdge : goal.has_bar_at-requires-in-DelEdge
has_bar_at-requires-in-DelEdge g c =
    let led = c.requires.1 in
    let change = subst (λ h. HasChange h c.args.edit.now) (sym led.next_is) (shown c.requires.0 c.args.edit.now led.no_reason) in
    (search rules, (subst (HasChange c.args.graph.now) c.in-DelEdge.is change).0)

pub has_bar_at-requires-in-AddVertex : goal.has_bar_at-requires-in-AddVertex
has_bar_at-requires-in-AddVertex g c =
    let led = c.requires.1 in
    let change = subst (λ h. HasChange h c.args.edit.now) (sym led.next_is) (shown c.requires.0 c.args.edit.now led.no_reason) in
    (search rules, subst (HasChange c.args.graph.now) c.in-AddVertex.is change)

pub returns-in-AddEdge-clause-allowed : goal.returns-in-AddEdge-clause-allowed
returns-in-AddEdge-clause-allowed g c = λ told.
    let before = c.requires.0 in
    let cograph = when_none c.made_p4.result (IsCograph c.args.graph.now) (sym c.is_some.ensures ∙ c.if-is_some.false) (c.made_p4.ensures.cograph before c.requires.1 (allowed_cograph c.args.class before c.requires.2)) in
    allowed_added (words_few g.row.W c.vertices-vertices.ensures.limit) c.args.class before c.args.graph.now c.args.edit.now c.requires.1 c.requires.2 cograph c.in-AddEdge.u c.in-AddEdge.v c.in-AddEdge.is (c.has_bar_at.ensures.none told)

pub returns-in-DelEdge-clause-allowed : goal.returns-in-DelEdge-clause-allowed
returns-in-DelEdge-clause-allowed g c = λ told.
    let before = c.requires.0 in
    let cograph = when_none c.made_p4.result (IsCograph c.args.graph.now) (sym c.is_some.ensures ∙ c.if-is_some.false) (c.made_p4.ensures.cograph before c.requires.1 (allowed_cograph c.args.class before c.requires.2)) in
    allowed_gone (words_few g.row.W c.vertices-vertices.ensures.limit) c.args.class before c.args.graph.now c.args.edit.now c.requires.1 c.requires.2 cograph c.in-DelEdge.u c.in-DelEdge.v c.in-DelEdge.is (c.has_bar_at-in-DelEdge.ensures.none told)

pub returns-in-AddVertex-clause-allowed : goal.returns-in-AddVertex-clause-allowed
returns-in-AddVertex-clause-allowed g c = λ told.
    let before = c.requires.0 in
    let cograph = when_none c.made_p4.result (IsCograph c.args.graph.now) (sym c.is_some.ensures ∙ c.if-is_some.false) (c.made_p4.ensures.cograph before c.requires.1 (allowed_cograph c.args.class before c.requires.2)) in
    allowed_new (words_few g.row.W c.vertices-vertices.ensures.limit) c.args.class before c.args.graph.now c.args.edit.now c.requires.1 c.requires.2 cograph c.in-AddVertex.x c.in-AddVertex.neighbours c.in-AddVertex.is (c.has_bar_at-in-AddVertex.ensures.none told)

pub returns-in-DelVertex-clause-allowed : goal.returns-in-DelVertex-clause-allowed
returns-in-DelVertex-clause-allowed g c = λ told.
    let before = c.requires.0 in
    let cograph = when_none c.made_p4.result (IsCograph c.args.graph.now) (sym c.is_some.ensures ∙ c.if-is_some.false) (c.made_p4.ensures.cograph before c.requires.1 (allowed_cograph c.args.class before c.requires.2)) in
    allowed_left (words_few g.row.W c.vertices-vertices.ensures.limit) c.args.class before c.args.graph.now c.args.edit.now c.requires.1 c.requires.2 cograph c.in-DelVertex.x c.in-DelVertex.is
