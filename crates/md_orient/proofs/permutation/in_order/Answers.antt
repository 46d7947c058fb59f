use Rattle.std.proofs.Common.{◌∙◌, rules, refl, sym, ap, subst, arith}
use Rattle.std.specs.FinSet.{len}
use Rattle.md_graph.specs.NameSet.{ascending}
use Rattle.md_orient.specs.Models.{ArePlaced, comes_before}
use Rattle.md_orient.proofs.Modelling.{placing_start, next_vertex, place_below, placing_more, placing_end}
use Rattle.md_orient.proofs.permutation.in_order.Goals as goal

pub loop-v-init : goal.loop-v-init
loop-v-init g c =
    placing_start _ c.args.graph.now.vertices _ _ c.vertices-vertices.ensures.graph.names (sym c.in_ok-list.list.ok.0 ∙ c.in_ok-list.ensures.len ∙ c.count.ensures.value ∙ ap len c.vertices-vertices.ensures.set) (c.into_iter-v-iterator.ensures.into_iter_gives ∙ c.members-v-items.ensures.list ∙ ap ascending c.vertices-vertices.ensures.set)

pub place_of-place-requires : goal.place_of-place-requires
place_of-place-requires g c =
    let here = next_vertex _ _ _ _ _ _ c.loop-v.invariant c.in-Some.ensures.steps in
    (search rules, (c.requires.sides.room c.in-Some.v here, c.requires.sides.other_room c.in-Some.v here))

pub index_mut-requires : goal.index_mut-requires
index_mut-requires g c =
    let size = c.loop-v.list.ok.0 in
    let below = place_below _ _ c.requires.linear _ _ _ _ _ c.loop-v.invariant c.in-Some.ensures.steps (c.place_of-place.ensures _ c.requires.sides) in
    omega arith

pub loop-v-preserved : goal.loop-v-preserved
loop-v-preserved g c =
    placing_more _ _ c.requires.linear _ _ _ _ _ _ c.loop-v.invariant c.in-Some.ensures.steps (c.place_of-place.ensures _ c.requires.sides) refl

pub returns : goal.returns
returns g c =
    subst (ArePlaced (comes_before c.args.edges.now c.args.others.now c.args.turned) c.args.graph.now.vertices) (sym c.from_list.ensures) (placing_end _ _ _ _ c.loop-v.invariant c.in-None.ensures.steps.0)
