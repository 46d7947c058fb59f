use Rattle.std.proofs.Common.{◌∙◌, refl, rules, sym, subst}
use Rattle.md_graph.specs.Sets.{Has}
use Rattle.md_forcing.specs.Sides.{adjacent_on}
use Rattle.md_forcing.proofs.SeenRows.{tail_within, head_within}
use Rattle.md_forcing.proofs.OneSide.{side_ends, side_symmetric, apart_at_edges, apart_at_non_edges, none_beside, forced_seen}
use Rattle.md_forcing.proofs.arc_set.ArcSetOf.has_forced_by.Goals as goal

pub neighbours-near-requires : goal.neighbours-near-requires
neighbours-near-requires g c = (search rules, (search rules, (side_ends c.vertices-vertices.ensures.graph c.args.side c.args.by.tail c.args.by.head c.requires.is_arc).0))

pub neighbours-far-requires : goal.neighbours-far-requires
neighbours-far-requires g c = (search rules, (search rules, (side_ends c.vertices-vertices.ensures.graph c.args.side c.args.by.tail c.args.by.head c.requires.is_arc).1))

pub heads-heads-requires : goal.heads-heads-requires
heads-heads-requires g c = (search rules, (search rules, tail_within _ c.args.by c.requires.seen))

pub tails-tails-requires : goal.tails-tails-requires
tails-tails-requires g c = (search rules, (search rules, head_within _ _ _ c.args.by c.self.invariant c.self.view_is c.requires.seen))

pub returns-in-Edges : goal.returns-in-Edges
returns-in-Edges g c t =
    let within = c.is_apart_as_known.ensures.exactly.0 t in
    forced_seen (adjacent_on c.args.side c.args.graph.now) (side_symmetric c.args.side c.args.graph.now) _ c.args.by c.requires.seen c.heads-heads.result.now c.tails-tails.result.now c.heads-heads.ensures c.tails-tails.ensures _ _
    (apart_at_edges c.vertices-vertices.ensures.graph c.args.side c.args.by.tail c.args.by.head _ _ _ _ c.in-Edges.is c.neighbours-near.ensures.set c.neighbours-far.ensures.set refl)
    (apart_at_edges c.vertices-vertices.ensures.graph c.args.side c.args.by.head c.args.by.tail _ _ _ _ c.in-Edges.is c.neighbours-far.ensures.set c.neighbours-near.ensures.set refl)
    (none_beside _ _ within.0) (none_beside _ _ within.1)

pub returns-in-NonEdges : goal.returns-in-NonEdges
returns-in-NonEdges g c t =
    let within = c.is_apart_as_known-in-NonEdges.ensures.exactly.0 t in
    forced_seen (adjacent_on c.args.side c.args.graph.now) (side_symmetric c.args.side c.args.graph.now) _ c.args.by c.requires.seen c.heads-heads.result.now c.tails-tails.result.now c.heads-heads.ensures c.tails-tails.ensures _ _
    (apart_at_non_edges c.vertices-vertices.ensures.graph c.args.side c.args.by.tail c.args.by.head _ _ _ _ c.in-NonEdges.is c.requires.is_arc (subst (λ s. Has s c.args.by.head) (sym c.heads-heads.ensures) c.requires.seen) c.neighbours-far.ensures.set c.neighbours-near.ensures.set refl)
    (apart_at_non_edges c.vertices-vertices.ensures.graph c.args.side c.args.by.head c.args.by.tail _ _ _ _ c.in-NonEdges.is (side_symmetric c.args.side c.args.graph.now c.args.by.head c.args.by.tail ∙ c.requires.is_arc) (c.tails-tails.ensures c.args.by.tail ∙ c.requires.seen) c.neighbours-near.ensures.set c.neighbours-far.ensures.set refl)
    (none_beside _ _ within.0) (none_beside _ _ within.1)
