use Rattle.std.proofs.Common.{sym, subst, ◌∙◌, arith}
use Rattle.md_graph.proofs.SetLemmas.{clash}
use Rattle.md_report.specs.Protocols.{fed_by}
use Rattle.md_report.proofs.Behind.{nothing_left}
use Rattle.md_checker.specs.Answers.{HaveComeBy}
use Rattle.md_checker.proofs.Judging.{some_left, rejected, accepted, came, stuck_line, stuck_rest, stuck_empty}
use Rattle.md_checker.proofs.line_judge.judge.Goals as goal

pub returns-in_default : goal.returns-in_default
returns-in_default g c =
    let j = g.J.LineJudge in
    let q = j.place c.loop-rest.line_judge in
    record {
      answer =
          rejected j.may_come j.next j.line_text j.last g.met.J.LineJudge.spells g.met.J.LineJudge.ends (j.place c.args.line_judge.now) q c.args.report.now c.loop-rest.rest.now c.loop-rest.line
          c.requires.can_end c.loop-rest.invariant.come
          (stuck_rest j.may_come j.line_text g.met.J.LineJudge.spells q c.loop-rest.rest.now c.in_default.ensures.none)
          (λ is_end. some_left c.loop-rest.rest.now (sym c.is_empty.ensures ∙ c.loop-rest-test.true));
      stands = (c.loop-rest.rest.now, c.loop-rest.invariant.come);
    }

pub returns-then-not-branch : goal.returns-then-not-branch
returns-then-not-branch g c =
    let j = g.J.LineJudge in
    let q = j.place c.loop-rest.line_judge in
    record {
      answer =
          rejected j.may_come j.next j.line_text j.last g.met.J.LineJudge.spells g.met.J.LineJudge.ends (j.place c.args.line_judge.now) q c.args.report.now c.loop-rest.rest.now c.loop-rest.line
          c.requires.can_end c.loop-rest.invariant.come
          (stuck_line j.may_come j.line_text g.met.J.LineJudge.spells q c.loop-rest.rest.now c.in-Some.text.now c.in-Some.behind.now c.in-Some.ensures.lacks c.in-Some.ensures.whole
          (λ some. clash (c.in_ok-feed_text.ensures.may.1 some) c.if-not-branch.true))
          (λ is_end. some_left c.loop-rest.rest.now (sym c.is_empty.ensures ∙ c.loop-rest-test.true));
      stands = (
        c.loop-rest.rest.now,
        subst (λ z. HaveComeBy j.may_come j.next (fed_by j.line_text) (j.place c.args.line_judge.now) c.args.report.now z c.loop-rest.rest.now c.loop-rest.line)
            (sym (c.in_ok-feed_text.ensures.refused (λ some. clash some c.if-not-branch.true))) c.loop-rest.invariant.come,
      );
    }

pub loop-rest-preserved : goal.loop-rest-preserved
loop-rest-preserved g c =
    let j = g.J.LineJudge in
    record {
      come =
          came j.may_come j.next j.line_text (j.place c.args.line_judge.now) (j.place c.loop-rest.line_judge) (j.place c.feed_text.new.self) c.args.report.now c.loop-rest.rest.now c.in-Some.text.now c.in-Some.behind.now c.loop-rest.line
          c.loop-rest.invariant.come c.in-Some.ensures.whole (c.in_ok-feed_text.ensures.next c.if-not-branch.false);
      room = omega (arith, c.in-Some.ensures.shorter, c.loop-rest.invariant.room);
    }

pub returns-then-not-complete : goal.returns-then-not-complete
returns-then-not-complete g c =
    let j = g.J.LineJudge in
    let q = j.place c.loop-rest.line_judge in
    record {
      answer =
          rejected j.may_come j.next j.line_text j.last g.met.J.LineJudge.spells g.met.J.LineJudge.ends (j.place c.args.line_judge.now) q c.args.report.now c.loop-rest.rest.now c.loop-rest.line
          c.requires.can_end c.loop-rest.invariant.come
          (stuck_empty j.may_come j.line_text g.met.J.LineJudge.spells q c.loop-rest.rest.now (sym c.is_empty.ensures ∙ c.loop-rest-test.false))
          (λ is_end none. clash (c.complete.ensures.complete.1 is_end) c.if-not-complete.true);
      stands = (c.loop-rest.rest.now, c.loop-rest.invariant.come);
    }

pub returns : goal.returns
returns g c =
    let j = g.J.LineJudge in
    record {
      answer =
          accepted j.may_come j.next j.line_text j.last g.met.J.LineJudge.spells g.met.J.LineJudge.ends (j.place c.args.line_judge.now) (j.place c.loop-rest.line_judge) c.args.report.now c.loop-rest.rest.now c.loop-rest.line
          c.loop-rest.invariant.come (c.complete.ensures.complete.0 c.if-not-complete.false) (nothing_left c.loop-rest.rest.now (sym c.is_empty.ensures ∙ c.loop-rest-test.false));
      stands = c.complete.ensures.complete.0 c.if-not-complete.false;
    }
