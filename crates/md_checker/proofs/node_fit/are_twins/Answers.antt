use Rattle.std.proofs.Common.{◌≡◌, ◌<◌, length, refl, ◌∙◌, arith}
use Rattle.md_graph.proofs.SetLemmas.{clash}
use Rattle.md_checker.proofs.Twins.{twins_first, twins_more, twins_agree, twins_others, twins_alike, twins_joined}
use Rattle.md_checker.proofs.node_fit.are_twins.Goals as goal

pub loop-at-init : goal.loop-at-init
loop-at-init g c = record { some = omega arith; within = (let s = c.requires.heads.some in omega arith); twins = twins_first c.remove.new.self c.remove.ensures.changed }

pub loop-at-preserved : goal.loop-at-preserved
loop-at-preserved g c = record {
  some = omega arith;
  within = (let s = c.loop-at-test.true in omega arith);
  twins = twins_more c.loop-at.at c.loop-at.live c.remove-in-loop-at.new.self c.requires.heads.differ c.requires.live c.loop-at.invariant.twins c.remove-in-loop-at.ensures.changed
      (c.are_joined.ensures.joined.0 c.if-not-are_joined.false).1 (c.agree_on.ensures.agree.0 c.if-not-agree_on.false);
}

pub returns-then-not-are_joined-clause-other : goal.returns-then-not-are_joined-clause-other
returns-then-not-are_joined-clause-other g c others are alike joined =
    let some : 0 < c.loop-at.at = (let a = c.loop-at.invariant.some in omega arith) in
    clash (c.are_joined.ensures.joined.1 (c.requires.lists, λ i j. joined 0 c.loop-at.at some c.loop-at-test.true ∙ c.vertices-vertices.ensures.view.even c.args.kind c.requires.lists 0 c.loop-at.at i j)) c.if-not-are_joined.true

pub returns-then-not-agree_on-clause-other : goal.returns-then-not-agree_on-clause-other
returns-then-not-agree_on-clause-other g c others are alike joined =
    let some : 0 < c.loop-at.at = (let a = c.loop-at.invariant.some in omega arith) in
    clash (c.agree_on.ensures.agree.1
    (twins_agree c.loop-at.at c.loop-at.live c.remove-in-loop-at.new.self others c.loop-at-test.true (c.vertices-vertices.ensures.view.even c.args.kind c.requires.lists) c.loop-at.invariant.twins c.remove-in-loop-at.ensures.changed are alike joined some))
    c.if-not-agree_on.true

pub returns : goal.returns
returns g c =
    let a = c.loop-at.invariant.within in
    let b = c.loop-at-test.false in
    let all : c.loop-at.at ≡ length c.args.heads.now = omega arith in
    record {
      others = λ yes. twins_others c.loop-at.invariant.twins all;
      alike = λ yes. twins_alike c.loop-at.invariant.twins all;
      joined = λ yes. twins_joined c.loop-at.invariant.twins all;
      other = λ others are alike joined. refl;
    }
