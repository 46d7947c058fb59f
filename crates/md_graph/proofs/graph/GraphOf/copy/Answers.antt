use Rattle.std.proofs.Common.{arith, rules, ◌≡◌, ◌++◌, ◌∷◌, [], ◌∙◌, ap}
use Rattle.md_graph.proofs.RowLemmas.{graph_is, still_below, row_is, Made-start, Made-more, Made-end, room_for}
use Rattle.md_graph.proofs.Limits.{NAMES-lt}
use Rattle.md_graph.proofs.graph.GraphOf.copy.Goals as goal

pub overflow_mul-with_capacity : goal.overflow_mul-with_capacity
overflow_mul-with_capacity g c = omega (arith, c.self.invariant.1.names, NAMES-lt)

pub push_reserved-requires : goal.push_reserved-requires
push_reserved-requires g c =
    omega (arith, c.loop-v.rows.ok.0, c.loop-v.invariant.made.size, c.loop-v-test.true, c.len-v-end.ensures, c.self.invariant.1.made, c.loop-v.invariant.room)

pub loop-v-init : goal.loop-v-init
loop-v-init g c = record { made = Made-start (c.args.self.now) _ (c.in_ok-rows.ensures.items); room = c.in_ok-rows.ensures.capacity }

pub loop-v-preserved : goal.loop-v-preserved
loop-v-preserved g c =
    let pushed : c.push_reserved.new.self.items ≡ c.loop-v.rows.items ++ c.copy.result ∷ [] = search rules in
    record { made = Made-more c.loop-v.invariant.made _ (c.copy.ensures.value ∙ row_is c.self.invariant.0 c.self.view_is c.loop-v.v (omega (arith, c.loop-v-test.true, c.len-v-end.ensures, c.self.invariant.0.one_each)) _ c.index.ensures) _ pushed; room = omega (arith, c.loop-v.invariant.room, c.push_reserved.ensures.capacity) }

pub invariant_of-result : goal.invariant_of-result
invariant_of-result g c = (
  (Made-end (graph_is c.self.invariant.0 c.self.view_is) c.loop-v.invariant.made (omega (arith, c.len-v-end.ensures, c.self.invariant.0.one_each)) c.self.invariant.0.few (still_below c.self.invariant.0 c.self.view_is) (c.copy-2.ensures.value ∙ ap (λ g. g.vertices) c.self.view_is) _ c.loop-v.rows.ok.0).0,
  room_for c.self.invariant.1 _ _ (omega (arith, c.loop-v.rows.ok.0, c.loop-v.invariant.made.size, c.len-v-end.ensures, c.self.invariant.1.made)) c.loop-v.invariant.room c.copy-3.ensures.value,
)

pub returns : goal.returns
returns g c = record {
  made =
      (Made-end (graph_is c.self.invariant.0 c.self.view_is) c.loop-v.invariant.made (omega (arith, c.len-v-end.ensures, c.self.invariant.0.one_each)) c.self.invariant.0.few (still_below c.self.invariant.0 c.self.view_is) (c.copy-2.ensures.value ∙ ap (λ g. g.vertices) c.self.view_is) _ c.loop-v.rows.ok.0).1;
}
