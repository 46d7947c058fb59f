use Rattle.std.proofs.Common.{refl, arith}
use Rattle.md_forcing.specs.Sides.{adjacent_on}
use Rattle.md_forcing.proofs.OneSide.{side_ends}
use Rattle.md_forcing.proofs.SeenRows.{none_seen}
use Rattle.md_comparability.proofs.Reached.{side_premises}
use Rattle.md_comparability.proofs.WalkLemmas.{walked_start, walked_whole}
use Rattle.md_comparability.proofs.edge_walk.orient_classes.Goals as goal

pub loop-u-init : goal.loop-u-init
loop-u-init g c = record {
  walked = walked_start (adjacent_on c.args.side c.args.graph.now) _ (none_seen _ c.in_ok-chosen.ensures.none);
  room = refl;
}

pub returns-clause-ending : goal.returns-clause-ending
returns-clause-ending g c =
    walked_whole (adjacent_on c.args.side c.args.graph.now) (side_premises c.vertices-vertices.ensures.graph c.args.side).adjacency c.loop-u.u _ c.loop-u.invariant.walked (λ x y h.
    let above = c.bound.ensures.above x (side_ends c.vertices-vertices.ensures.graph c.args.side x y h).0 in
    let room = c.in_ok-chosen.ensures.room in
    let size = c.size-u-end.ensures.size in
    omega arith)
