use Rattle.std.proofs.Common.{◌+◌, length, arith, ◌∙◌, ap, subst, sym, rules}
use Rattle.std.specs.FinSet as set
use Rattle.md_graph.specs.declared.TheConstants.{NAMES}
use Rattle.md_graph.specs.NameSet.{ascending}
use Rattle.md_graph.specs.Sets.{Has}
use Rattle.md_graph6.specs.Written.{IsWritten}
use Rattle.md_graph.proofs.Limits.{NAMES-lt, words_few}
use Rattle.md_graph.proofs.NameLemmas.{few_below, ascending_items}
use Rattle.md_graph.proofs.MemberLists.{few_in}
use Rattle.md_graph6.proofs.Listed.{at_start, at_turn, at_end}
use Rattle.md_graph6.proofs.WriteLemmas.{IsWritten-more, gathered_column, pair_next, pair_mono}
use Rattle.md_graph6.proofs.writer.put_any.Goals as goal

pub loop-v-init : goal.loop-v-init
loop-v-init g c = record {
  place = at_start (ascending c.args.graph.now.vertices) c.into_iter-v-iterator.result (c.into_iter-v-iterator.ensures.into_iter_gives ∙ c.members-v-items.ensures.list ∙ ap ascending c.vertices-vertices.ensures.set);
  written = c.requires.blank;
}

pub neighbours-requires : goal.neighbours-requires
neighbours-requires g c =
    let turn = at_turn c.loop-v.invariant.place c.in-Some.v c.next.new.self c.in-Some.ensures.steps in
    let item = ascending_items c.args.graph.now.vertices 0 NAMES c.loop-v.j 0 turn.0 in
    (search rules, (search rules, subst (Has c.args.graph.now.vertices) (sym turn.1) item.member))

pub gather-requires : goal.gather-requires
gather-requires g c = (search rules, (search rules, c.loop-v.invariant.place.inside))

pub put_column-requires : goal.put_column-requires
put_column-requires g c =
    let turn = at_turn c.loop-v.invariant.place c.in-Some.v c.next.new.self c.in-Some.ensures.steps in
    let limit = c.vertices-vertices.ensures.limit in
    let few = few_in c.args.graph.now.vertices _ c.vertices-vertices.ensures.below (words_few _ limit) in
    let room = pair_mono (c.loop-v.j + 1) (length (ascending c.args.graph.now.vertices)) (omega (arith, turn.0)) in
    (search rules, (limit, (omega (arith, turn.0, few), (c.loop-v.invariant.written.groups, (omega (arith, c.requires.room, pair_next c.loop-v.j, room), c.loop-v.invariant.written.blank)))))

pub loop-v-preserved : goal.loop-v-preserved
loop-v-preserved g c =
    let turn = at_turn c.loop-v.invariant.place c.in-Some.v c.next.new.self c.in-Some.ensures.steps in
    record {
      place = turn.2;
      written =
          IsWritten-more (λ i. set.contains c.gather.new.column (0 + i)) c.loop-v.invariant.written c.put_column.ensures.groups c.put_column.ensures.before c.put_column.ensures.column
          (gathered_column c.neighbours.result.now c.gather.new.column c.in-Some.v c.loop-v.j c.neighbours.ensures.graph c.neighbours.ensures.set turn.1 c.gather.ensures);
    }

pub returns : goal.returns
returns g c =
    let all = at_end c.loop-v.invariant.place c.in-None.ensures.steps.0 in
    subst (IsWritten c.loop-v.body c.args.graph.now) all c.loop-v.invariant.written

pub overflow_add-j : goal.overflow_add-j
overflow_add-j g c =
    let turn = at_turn c.loop-v.invariant.place c.in-Some.v c.next.new.self c.in-Some.ensures.steps in
    omega (arith, turn.0, few_below c.args.graph.now.vertices 0 NAMES, NAMES-lt)
