use Rattle.std.proofs.Common.{rules}
use Rattle.md_forcing.proofs.OneSide.{side_ends, apart_at_edges, apart_at_non_edges}
use Rattle.md_forcing.proofs.arc_set.apart.Goals as goal

pub neighbours-near-requires : goal.neighbours-near-requires
neighbours-near-requires g c = (search rules, (search rules, (side_ends c.vertices-vertices.ensures.graph c.args.side c.args.here c.args.there c.requires.adjacent).0))

pub neighbours-far-requires : goal.neighbours-far-requires
neighbours-far-requires g c = (search rules, (search rules, (side_ends c.vertices-vertices.ensures.graph c.args.side c.args.here c.args.there c.requires.adjacent).1))

pub returns-in-Edges : goal.returns-in-Edges
returns-in-Edges g c =
    apart_at_edges c.vertices-vertices.ensures.graph c.args.side c.args.here c.args.there c.args.known.now _ _ _ c.in-Edges.is c.neighbours-near.ensures.set c.neighbours-far.ensures.set c.set_to_difference.ensures.changed

pub returns-in-NonEdges : goal.returns-in-NonEdges
returns-in-NonEdges g c =
    apart_at_non_edges c.vertices-vertices.ensures.graph c.args.side c.args.here c.args.there c.args.known.now _ _ _ c.in-NonEdges.is c.requires.adjacent c.requires.known c.neighbours-far.ensures.set c.neighbours-near.ensures.set c.set_to_difference-in-NonEdges.ensures.changed
