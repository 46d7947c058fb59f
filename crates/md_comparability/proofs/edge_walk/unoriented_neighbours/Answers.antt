use Rattle.md_forcing.specs.Sides.{adjacent_on}
use Rattle.md_comparability.proofs.Near.{unjoined_are}
use Rattle.md_comparability.proofs.edge_walk.unoriented_neighbours.Goals as goal

pub returns : goal.returns
returns g c =
    unjoined_are (adjacent_on c.args.side c.args.graph.now) c.args.u c.args.arcs.now c.neighbours_on-near.result c.heads.result.now c.tails.result.now _ c.neighbours_on-near.ensures c.heads.ensures c.tails.ensures c.set_to_difference.ensures.changed
