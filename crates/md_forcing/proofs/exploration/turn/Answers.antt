use Rattle.std.proofs.Common.{◌∙◌, rules, ◌<◌, sym, subst}
use Rattle.md_forcing.specs.Forcing.{arc}
use Rattle.md_forcing.specs.Sides.{adjacent_on}
use Rattle.md_forcing.proofs.ListLemmas.{key_at}
use Rattle.md_forcing.proofs.OneSide.{side_names, arc_within}
use Rattle.md_forcing.proofs.TurnLemmas.{found_turn, nothing_found}
use Rattle.md_forcing.proofs.exploration.turn.Goals as goal

pub unseen_heads-requires : goal.unseen_heads-requires
unseen_heads-requires g c = (
  search rules,
  (
    search rules,
    (
      search rules,
      (
        c.requires.arcs c.entry.result.0 (key_at _ _ _ c.entry.result.1 c.entry.ensures),
        c.requires.seen c.entry.result.0 (key_at _ _ _ c.entry.result.1 c.entry.ensures),
      ),
    ),
  ),
)

pub unseen_tails-requires : goal.unseen_tails-requires
unseen_tails-requires g c = (
  search rules,
  (
    search rules,
    (
      search rules,
      (
        c.requires.arcs c.entry.result.0 (key_at _ _ _ c.entry.result.1 c.entry.ensures),
        c.requires.seen c.entry.result.0 (key_at _ _ _ c.entry.result.1 c.entry.ensures),
      ),
    ),
  ),
)

pub take_heads-requires : goal.take_heads-requires
take_heads-requires g c = (
  search rules,
  (
    search rules,
    (
      (arc_within c.vertices-vertices.ensures.graph c.args.side _ c.requires.room c.entry.result.0 (c.requires.arcs c.entry.result.0 (key_at _ _ _ c.entry.result.1 c.entry.ensures))).0,
      λ w h. (arc_within c.vertices-vertices.ensures.graph c.args.side _ c.requires.room (arc c.entry.result.0.tail w) ((c.unseen_heads.ensures w).0 h).0).1,
    ),
  ),
)

pub take_tails-requires : goal.take_tails-requires
take_tails-requires g c = (
  search rules,
  (
    search rules,
    (
      let within = (arc_within c.vertices-vertices.ensures.graph c.args.side _ c.requires.room c.entry.result.0 (c.requires.arcs c.entry.result.0 (key_at _ _ _ c.entry.result.1 c.entry.ensures))).1 in
          subst (λ n. c.entry.result.0.head < n) (sym c.take_heads.ensures.room) within,
      λ w h. subst (λ n. w < n) (sym c.take_heads.ensures.room) (arc_within c.vertices-vertices.ensures.graph c.args.side _ c.requires.room (arc w c.entry.result.0.head) ((c.unseen_tails.ensures w).0 h).0).0,
    ),
  ),
)

pub returns-then-is_empty-2-clause-taken : goal.returns-then-is_empty-2-clause-taken
returns-then-is_empty-2-clause-taken g c =
    nothing_found (adjacent_on c.args.side c.args.graph.now) (side_names c.vertices-vertices.ensures.graph c.args.side) _ c.entry.result.0 _ _ c.unseen_heads.ensures c.unseen_tails.ensures c.args.at c.entry.result.1 _ c.entry.ensures (c.is_empty.ensures.exactly.0 c.if-is_empty.true) (c.is_empty-then-is_empty.ensures.exactly.0 c.if-is_empty-2.true)

pub returns : goal.returns
returns g c = record {
  taken =
      found_turn (adjacent_on c.args.side c.args.graph.now) (side_names c.vertices-vertices.ensures.graph c.args.side) _ c.entry.result.0 _ _ c.unseen_heads.ensures c.unseen_tails.ensures c.args.at c.entry.result.1 _ _ _ _ _ c.entry.ensures c.in_ok-push_heads.ensures c.in_ok-push_tails.ensures c.take_heads.ensures.taken c.take_tails.ensures.taken;
  room = c.take_tails.ensures.room ∙ c.take_heads.ensures.room;
}
