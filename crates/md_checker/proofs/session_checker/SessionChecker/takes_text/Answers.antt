use Rattle.std.proofs.Common.{rules, ◌*◌, ◌≤◌, ◌+◌, ◌≡◌, [], ◌∷◌, true, length, drop, sym, ◌∙◌, ap, subst, arith}
use Rattle.std.proofs.lemmas.Bool.Decides.{nat_tests}
use Rattle.md_script.specs.Items.{HasItemNamesBelow}
use Rattle.md_script.specs.Histories.{graphs_before}
use Rattle.md_script.proofs.ChangeLemmas.{holds_at}
use Rattle.md_report.specs.Steps.{state_of}
use Rattle.md_report.proofs.Groups.{drop_read}
use Rattle.md_checker.specs.Judged.{IsJudgedByText}
use Rattle.md_checker.specs.Standing.{session_place, Takes}
use Rattle.md_checker.proofs.Taking.{takes_first, takes_answered, takes_last, item_taken}
use Rattle.md_checker.proofs.session_checker.SessionChecker.takes_text.Goals as goal

pub returns-else-not-branch-clause-takes : goal.returns-else-not-branch-clause-takes
returns-else-not-branch-clause-takes g c t =
    let s = c.self.inside in
    let is = c.in-First.is in let p = c.in-Some.ensures in let may = rw is at p in
    takes_first true s.due s.mode (state_of s.graph s.history.items) (drop s.answered s.script) c.args.text.now c.args.self.now c.self.view_is may (ap (graphs_before s.graph) (c.self.invariant.1.state may.0))
    (c.in_ok-is_word_and_state-in-First.ensures.0 c.if-not-branch.false)

pub returns-else-not-branch-3-clause-takes : goal.returns-else-not-branch-3-clause-takes
returns-else-not-branch-3-clause-takes g c t =
    let s = c.self.inside in
    let is = c.in-Last.is in let p = c.in-Some.ensures in let may = rw is at p in
    let left = may.2 in
    let count = c.len.ensures.count in
    let past : length s.script ≤ s.answered = grind (arith, nat_tests) in
    takes_last _ s.due s.mode (state_of s.graph s.history.items) s.script s.answered c.args.text.now c.args.self.now c.self.view_is may past (λ d. ap (graphs_before s.graph) (c.self.invariant.1.state d))
    (c.in_ok-is_word_and_state-in-Last.ensures.0 c.if-not-branch-3.false)

pub returns-else-not-branch-2-clause-takes : goal.returns-else-not-branch-2-clause-takes
returns-else-not-branch-2-clause-takes g c t =
    let s = c.self.inside in
    let is = c.in-Answered.is in let p = c.in-Some.ensures in let may = rw is at p in
    let next = state_of c.answers_by_text.new.graph c.answers_by_text.new.history.items in
    let judged = subst (λ b. IsJudgedByText b (64 * g.row.W) s.mode s.graph s.history.items c.get-item.result.now c.args.text.now c.answers_by_text.new.graph c.answers_by_text.new.history.items) c.if-not-branch-2.false c.in_ok-answers_by_text-in-Answered.ensures.judged in
    subst (λ d. Takes c.args.self.now c.args.text.now (session_place d s.mode next (drop (s.answered + 1) s.script))) (sym may.0)
    (takes_answered _ s.due s.mode (state_of s.graph s.history.items) next s.script s.answered c.get-item.result.now c.args.text.now c.args.self.now c.self.view_is may c.get-item.ensures.item
    (item_taken (64 * g.row.W) s.mode s.graph c.answers_by_text.new.graph s.history.items c.answers_by_text.new.history.items c.get-item.result.now c.args.text.now judged))

pub answers_by_text-requires : goal.answers_by_text-requires
answers_by_text-requires g c =
    let s = c.self.inside in
    let is = c.in-Answered.is in let p = c.in-Some.ensures in let may = rw is at p in
    let standing = c.self.invariant.1 in
    let rest = drop_read s.script s.answered c.get-item.result.now c.get-item.ensures.item in
    let allowed = standing.allowed may.0 (λ none. (let f : c.get-item.result.now ∷ drop (s.answered + 1) s.script ≡ [] = sym rest ∙ none in cc)) in
    let names = holds_at (HasItemNamesBelow (64 * g.row.W)) s.script s.answered c.get-item.result.now c.get-item.ensures.item c.self.invariant.2 in
    (search rules, (search rules, (names, (may.1, (standing.fits may.0, allowed)))))
