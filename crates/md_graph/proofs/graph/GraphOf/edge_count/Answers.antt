use Rattle.std.proofs.Common.{arith, ◌∙◌}
use Rattle.md_graph.proofs.EachRow.{Lists-head}
use Rattle.md_graph.proofs.RowLemmas.{Counted-start, Counted-more, Counted-fits, Counted-end}
use Rattle.md_graph.proofs.graph.GraphOf.edge_count.Goals as goal

pub loop-v-init : goal.loop-v-init
loop-v-init g c =
    Counted-start (c.into_iter-v-iterator.ensures.into_iter_gives ∙ c.members-v-items.ensures.list) c.members-v-items.ensures.names

pub index-requires : goal.index-requires
index-requires g c =
    let name = c.self.invariant.0.names c.in-Some.v (Lists-head c.loop-v.invariant.left _ _ c.in-Some.ensures.steps) in
    omega (arith, c.self.invariant.0.one_each)

pub overflow_add-ends : goal.overflow_add-ends
overflow_add-ends g c =
    let fits = Counted-fits c.self.invariant.0 (Counted-more c.self.invariant.0 c.loop-v.invariant _ _ c.in-Some.ensures.steps _ c.index.ensures _ c.count-ends.ensures.value) in
    omega arith

pub loop-v-preserved : goal.loop-v-preserved
loop-v-preserved g c =
    Counted-more c.self.invariant.0 c.loop-v.invariant _ _ c.in-Some.ensures.steps _ c.index.ensures _ c.count-ends.ensures.value

pub returns : goal.returns
returns g c = record {
  value = Counted-end c.self.invariant.0 c.self.view_is c.loop-v.invariant c.in-None.ensures.steps.0;
}
