use Rattle.std.proofs.Common.{◌≡◌, ◌*◌, ◌&&◌, nat_lt, arith, rules, ◌∙◌, ap}
use Rattle.std.specs.FinSet as set
use Rattle.md_graph.specs.NameSet.{ascending}
use Rattle.md_graph.proofs.Limits.{words_few}
use Rattle.md_graph6.specs.Written.{nth}
use Rattle.md_graph.proofs.MemberLists.{few_in}
use Rattle.md_graph6.proofs.Listed.{at_start, at_turn, at_end, gathered_none, gathered_more}
use Rattle.md_graph6.proofs.writer.gather.Goals as goal

pub loop-u-init : goal.loop-u-init
loop-u-init g c = record {
  place = at_start (ascending c.args.graph.now.vertices) c.into_iter-u-iterator.result (c.into_iter-u-iterator.ensures.into_iter_gives ∙ c.members-u-items.ensures.list ∙ ap ascending c.vertices.ensures.set);
  below = omega arith;
  members = gathered_none c.clear.new.self (λ k. set.contains c.args.row.now (nth c.args.graph.now k)) c.clear.ensures.changed;
}

pub returns-then-i-j : goal.returns-then-i-j
returns-then-i-j g c = λ k.
    c.loop-u.invariant.members k ∙ ap (λ j. nat_lt k j && set.contains c.args.row.now (nth c.args.graph.now k)) c.if-i-j.true

pub insert_if-requires : goal.insert_if-requires
insert_if-requires g c =
    let turn = at_turn c.loop-u.invariant.place c.in-Some.u c.next.new.self c.in-Some.ensures.steps in
    let few = few_in c.args.graph.now.vertices (64 * g.row.W) c.vertices.ensures.below (words_few g.row.W c.vertices.ensures.limit) in
    (search rules, omega (arith, turn.0, few))

pub loop-u-preserved : goal.loop-u-preserved
loop-u-preserved g c =
    let turn = at_turn c.loop-u.invariant.place c.in-Some.u c.next.new.self c.in-Some.ensures.steps in
    record {
      place = turn.2;
      below = omega arith;
      members = gathered_more c.loop-u.column c.insert_if.new.column (λ k. set.contains c.args.row.now (nth c.args.graph.now k)) c.loop-u.i c.has.result
          (c.has.ensures.value ∙ ap (set.contains c.args.row.now) turn.1) c.insert_if.ensures c.loop-u.invariant.members;
    }

pub returns : goal.returns
returns g c =
    let all = at_end c.loop-u.invariant.place c.in-None.ensures.steps.0 in
    let e : c.loop-u.i ≡ c.args.j = omega (arith, all, c.requires) in
    λ k. c.loop-u.invariant.members k ∙ ap (λ j. nat_lt k j && set.contains c.args.row.now (nth c.args.graph.now k)) e
