use Rattle.std.proofs.Common.{◌∙◌, rules, ◌<◌, sym, subst}
use Rattle.md_graph.proofs.SetLemmas.{clash}
use Rattle.md_forcing.specs.Sides.{adjacent_on}
use Rattle.md_forcing.proofs.OneSide.{arc_within}
use Rattle.md_comparability.proofs.Reached.{side_premises}
use Rattle.md_comparability.proofs.WalkLemmas.{apart_if, walk_stops, walked_on, joins_also}
use Rattle.md_comparability.proofs.edge_walk.orient_class_of.Goals as goal

pub has-requires : goal.has-requires
has-requires g c = (search rules, (arc_within c.vertices-vertices.ensures.graph c.args.side _ c.requires.room c.args.first c.requires.is_arc).0)

pub has-requires-else-has : goal.has-requires-else-has
has-requires-else-has g c = (search rules, (arc_within c.vertices-vertices.ensures.graph c.args.side _ c.requires.room c.args.first c.requires.is_arc).1)

pub has-stopped-requires : goal.has-stopped-requires
has-stopped-requires g c = (search rules, (arc_within c.vertices-vertices.ensures.graph c.args.side _ (λ w m. subst (λ k. w < k) (sym c.explore.ensures.room) (c.requires.room w m)) c.args.first c.requires.is_arc).1)

pub returns-clause-stopped : goal.returns-clause-stopped
returns-clause-stopped g c back =
    walk_stops (adjacent_on c.args.side c.args.graph.now) (side_premises c.vertices-vertices.ensures.graph c.args.side).adjacency c.args.first.tail _ c.requires.walked c.args.first.head c.requires.is_arc
    (apart_if c.args.explored.now.seen c.args.first.tail c.args.first.head (sym c.has.ensures ∙ c.if-has.false) (sym c.has-else-has.ensures ∙ c.if-has-2.false))
    c.requires.passed _ c.in_ok-explore.ensures.class _ c.in_ok-explore.ensures.taken (sym c.has-stopped.ensures ∙ back)

pub returns-clause-walked : goal.returns-clause-walked
returns-clause-walked g c none =
    walked_on (adjacent_on c.args.side c.args.graph.now) (side_premises c.vertices-vertices.ensures.graph c.args.side).adjacency c.args.first.tail _ c.requires.walked c.args.first.head c.requires.is_arc
    (apart_if c.args.explored.now.seen c.args.first.tail c.args.first.head (sym c.has.ensures ∙ c.if-has.false) (sym c.has-else-has.ensures ∙ c.if-has-2.false))
    c.requires.passed _ c.in_ok-explore.ensures.class _ c.in_ok-explore.ensures.taken (λ s. clash s (sym c.has-stopped.ensures ∙ none)) c.in_ok-explore.ensures.closed

pub returns-clause-joined : goal.returns-clause-joined
returns-clause-joined g c none =
    joins_also (adjacent_on c.args.side c.args.graph.now) (side_premises c.vertices-vertices.ensures.graph c.args.side).adjacency c.args.first.tail _ c.requires.walked c.args.first.head c.requires.is_arc
    (apart_if c.args.explored.now.seen c.args.first.tail c.args.first.head (sym c.has.ensures ∙ c.if-has.false) (sym c.has-else-has.ensures ∙ c.if-has-2.false))
    c.requires.passed _ c.in_ok-explore.ensures.class _ c.in_ok-explore.ensures.taken (λ s. clash s (sym c.has-stopped.ensures ∙ none))
