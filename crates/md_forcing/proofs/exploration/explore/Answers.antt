use Rattle.std.proofs.Common.{◌∙◌, rules, ◌++◌, ◌∷◌, [], length, ap, refl, inr, arith}
use Rattle.md_forcing.specs.Sides.{adjacent_on}
use Rattle.md_forcing.proofs.Limits.{names_squared}
use Rattle.md_forcing.proofs.OneSide.{arc_within, side_names, side_symmetric}
use Rattle.md_forcing.proofs.Reaching.{reached_arc}
use Rattle.md_forcing.proofs.Exploring.{exploring_start, exploring_more, exploring_class, exploring_closed, exploring_alone, few_entries, key_seen}
use Rattle.md_forcing.proofs.exploration.explore.Goals as goal

pub put-requires : goal.put-requires
put-requires g c = (
  search rules,
  (
    (arc_within c.vertices-vertices.ensures.graph c.args.side _ c.requires.room c.args.first c.requires.is_arc).0,
    (arc_within c.vertices-vertices.ensures.graph c.args.side _ c.requires.room c.args.first c.requires.is_arc).1,
  ),
)

pub has_forced_by-requires : goal.has_forced_by-requires
has_forced_by-requires g c = (search rules, (search rules, (c.requires.is_arc, (c.put.ensures.taken c.args.first).1 (inr refl))))

pub loop-at-init : goal.loop-at-init
loop-at-init g c = record {
  explored =
      exploring_start (adjacent_on c.args.side c.args.graph.now) c.args.first _ c.requires.is_arc c.requires.fresh _ _ c.put.ensures.taken (c.in_ok-push.ensures ∙ ap (λ l. l ++ (c.args.first, 0) ∷ []) c.clear.ensures);
  room = c.put.ensures.room;
}

pub turn-requires : goal.turn-requires
turn-requires g c =
    let few = few_entries (adjacent_on c.args.side c.args.graph.now) c.args.first _ (side_symmetric c.args.side c.args.graph.now) c.requires.closed _ _ _ c.loop-at.invariant.explored (side_names c.vertices-vertices.ensures.graph c.args.side) in
    let squared = names_squared in (
      search rules,
      (
        search rules,
        (
          search rules,
          (
            search rules,
            (
              search rules,
              (
                omega arith,
                (
                  λ a h. reached_arc (adjacent_on c.args.side c.args.graph.now) c.args.first a (c.loop-at.invariant.explored.reached a h),
                  key_seen (adjacent_on c.args.side c.args.graph.now) c.args.first _ (side_symmetric c.args.side c.args.graph.now) c.requires.closed _ _ _ c.loop-at.invariant.explored,
                ),
              ),
            ),
          ),
        ),
      ),
    )

pub loop-at-smaller : goal.loop-at-smaller
loop-at-smaller g c =
    let few = few_entries (adjacent_on c.args.side c.args.graph.now) c.args.first _ (side_symmetric c.args.side c.args.graph.now) c.requires.closed _ _ _ c.loop-at.invariant.explored (side_names c.vertices-vertices.ensures.graph c.args.side) in
    omega arith

pub loop-at-preserved : goal.loop-at-preserved
loop-at-preserved g c = record {
  explored =
      exploring_more (adjacent_on c.args.side c.args.graph.now) c.args.first _ _ _ _ _ _ c.loop-at.invariant.explored c.in_ok-turn.ensures.taken;
  room = c.turn.ensures.room ∙ c.loop-at.invariant.room;
}

pub returns-clause-class : goal.returns-clause-class
returns-clause-class g c =
    exploring_class (adjacent_on c.args.side c.args.graph.now) c.args.first _ (side_symmetric c.args.side c.args.graph.now) c.requires.closed _ _ _ c.loop-at.invariant.explored (omega arith)

pub returns-clause-closed : goal.returns-clause-closed
returns-clause-closed g c =
    exploring_closed (adjacent_on c.args.side c.args.graph.now) c.args.first _ (side_symmetric c.args.side c.args.graph.now) c.requires.closed _ _ _ c.loop-at.invariant.explored (omega arith)

pub returns-then-has_forced_by-clause-class : goal.returns-then-has_forced_by-clause-class
returns-then-has_forced_by-clause-class g c =
    let es = c.in_ok-push.ensures ∙ ap (λ l. l ++ (c.args.first, 0) ∷ []) c.clear.ensures in
    exploring_class (adjacent_on c.args.side c.args.graph.now) c.args.first _ (side_symmetric c.args.side c.args.graph.now) c.requires.closed _ _ 1
    (exploring_alone (adjacent_on c.args.side c.args.graph.now) c.args.first _ c.requires.is_arc c.requires.fresh _ _ c.put.ensures.taken es (c.has_forced_by.ensures c.if-has_forced_by.true))
    (omega (arith, ap length es))

pub returns-then-has_forced_by-clause-taken : goal.returns-then-has_forced_by-clause-taken
returns-then-has_forced_by-clause-taken g c =
    (exploring_start (adjacent_on c.args.side c.args.graph.now) c.args.first _ c.requires.is_arc c.requires.fresh _ _ c.put.ensures.taken (c.in_ok-push.ensures ∙ ap (λ l. l ++ (c.args.first, 0) ∷ []) c.clear.ensures)).seen

pub returns-then-has_forced_by-clause-closed : goal.returns-then-has_forced_by-clause-closed
returns-then-has_forced_by-clause-closed g c =
    let es = c.in_ok-push.ensures ∙ ap (λ l. l ++ (c.args.first, 0) ∷ []) c.clear.ensures in
    exploring_closed (adjacent_on c.args.side c.args.graph.now) c.args.first _ (side_symmetric c.args.side c.args.graph.now) c.requires.closed _ _ 1
    (exploring_alone (adjacent_on c.args.side c.args.graph.now) c.args.first _ c.requires.is_arc c.requires.fresh _ _ c.put.ensures.taken es (c.has_forced_by.ensures c.if-has_forced_by.true))
    (omega (arith, ap length es))
