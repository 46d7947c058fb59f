use Rattle.std.proofs.Common.{◌∙◌, refl}
use Rattle.md_forcing.specs.Sides.{adjacent_on}
use Rattle.md_comparability.proofs.Reached.{side_premises}
use Rattle.md_comparability.proofs.Near.{row_start, row_more}
use Rattle.md_comparability.proofs.edge_walk.orient_classes_at.Goals as goal

pub loop-v-init : goal.loop-v-init
loop-v-init g c = record {
  row = row_start (adjacent_on c.args.side c.args.graph.now) c.args.u c.args.explored.now.seen
      (λ y t. ((side_premises c.vertices-vertices.ensures.graph c.args.side).below c.args.u y t).1) c.requires.walked c.unoriented_neighbours-left.result c.unoriented_neighbours-left.ensures _
      (c.into_iter-v-iterator.ensures.into_iter_gives ∙ c.members-v-items.ensures.list);
  room = refl;
}

pub loop-v-preserved : goal.loop-v-preserved
loop-v-preserved g c = record {
  row = row_more (adjacent_on c.args.side c.args.graph.now) c.args.u _ _ _ _ c.in-Some.v c.loop-v.invariant.row c.in-Some.ensures.steps
      (c.in_ok-orient_class_of.ensures.walked c.if-branch.false) (c.in_ok-orient_class_of.ensures.joined c.if-branch.false);
  room = c.orient_class_of.ensures.room ∙ c.loop-v.invariant.room;
}
