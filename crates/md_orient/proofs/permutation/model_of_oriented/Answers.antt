use Rattle.std.proofs.Common.{rules, subst}
use Rattle.md_forcing.specs.declared.arc_set.Side.TheVariants.{NonEdges}
use Rattle.md_forcing.specs.Sides.{adjacent_on}
use Rattle.md_comparability.specs.Walking.{IsClassOrChosen, HasArcRoom}
use Rattle.md_orient.proofs.Modelling.{whole_has_no_chain, two_sides, first_linear, second_linear, placed_realise}
use Rattle.md_orient.proofs.permutation.model_of_oriented.Goals as goal

pub in_order-requires : goal.in_order-requires
in_order-requires g c =
    let others = subst (IsClassOrChosen (adjacent_on NonEdges c.args.graph.now)) c.in-Whole.is c.in_ok-trail.ensures.ending in
    let room = subst (HasArcRoom c.args.graph.now.vertices) c.in-Whole.is c.in_ok-trail.ensures.room in
    let sides = two_sides c.vertices-vertices.ensures.graph c.args.edges.now c.in-Whole.others c.requires.whole others c.requires.room room in
    (search rules, (search rules, (sides, first_linear c.vertices-vertices.ensures.graph c.args.edges.now c.in-Whole.others c.requires.whole others)))

pub in_order-requires-in-Whole : goal.in_order-requires-in-Whole
in_order-requires-in-Whole g c =
    let others = subst (IsClassOrChosen (adjacent_on NonEdges c.args.graph.now)) c.in-Whole.is c.in_ok-trail.ensures.ending in
    let room = subst (HasArcRoom c.args.graph.now.vertices) c.in-Whole.is c.in_ok-trail.ensures.room in
    let sides = two_sides c.vertices-vertices.ensures.graph c.args.edges.now c.in-Whole.others c.requires.whole others c.requires.room room in
    (search rules, (search rules, (sides, second_linear c.vertices-vertices.ensures.graph c.args.edges.now c.in-Whole.others c.requires.whole others)))

pub returns-in_ok-chain-in-Stopped : goal.returns-in_ok-chain-in-Stopped
returns-in_ok-chain-in-Stopped g c = (
  whole_has_no_chain c.vertices-vertices.ensures.graph c.args.edges.now c.requires.whole,
  c.in_ok-chain-in-Stopped.ensures (adjacent_on NonEdges c.args.graph.now) (subst (IsClassOrChosen (adjacent_on NonEdges c.args.graph.now)) c.in-Stopped.is c.in_ok-trail.ensures.ending),
)

pub returns-in_ok-second-in-Whole : goal.returns-in_ok-second-in-Whole
returns-in_ok-second-in-Whole g c =
    placed_realise c.vertices-vertices.ensures.graph c.args.edges.now c.in-Whole.others c.requires.whole (subst (IsClassOrChosen (adjacent_on NonEdges c.args.graph.now)) c.in-Whole.is c.in_ok-trail.ensures.ending) c.in_ok-first-in-Whole.first c.in_ok-second-in-Whole.second c.in_ok-first-in-Whole.ensures c.in_ok-second-in-Whole.ensures
