use Rattle.std.proofs.Common.{rules}
use Rattle.md_graph.proofs.Search.{turn_falls}
use Rattle.md_graph.proofs.SetLemmas.{union_along, Has-along, of_minus}
use Rattle.md_modules.proofs.Turns.{reach_more}
use Rattle.md_digraph.specs.ArcsSeen.{with_other_arcs}
use Rattle.md_digraph.proofs.ArcTurns.{others_all, falls_then}
use Rattle.md_digraph.proofs.components.turn.Goals as goal

pub look_back-requires : goal.look_back-requires
look_back-requires g c = (
  search rules,
  (
    search rules,
    λ y h. c.requires.part y (of_minus c.args.left.now _ y (Has-along _ _ c.move_others.ensures.left y h)).0,
  ),
)

pub returns-then-before-count-clause-kept : goal.returns-then-before-count-clause-kept
returns-then-before-count-clause-kept g c x is =
    c.look_back.ensures.kept x
    (reach_more c.args.within.now c.args.left.now c.args.todo.now (with_other_arcs c.args.graph.now c.args.w c.args.both c.args.left.now) c.move_others.new.left c.move_others.new.todo (c.args.both, c.args.both) x c.args.w
    is c.requires.member (others_all c.vertices-vertices.ensures.digraph c.args.w c.args.both c.args.left.now) c.move_others.ensures.left (union_along _ _ _ _ c.remove.ensures.changed c.move_others.ensures.todo))

pub returns-then-before-count-clause-fewer : goal.returns-then-before-count-clause-fewer
returns-then-before-count-clause-fewer g c =
    falls_then _ _ _ _ _ _
    (turn_falls c.args.left.now c.args.todo.now (with_other_arcs c.args.graph.now c.args.w c.args.both c.args.left.now) c.move_others.new.left c.move_others.new.todo c.args.w c.requires.member
    (λ y h. ((others_all c.vertices-vertices.ensures.digraph c.args.w c.args.both c.args.left.now).1 y h).0) c.move_others.ensures.left (union_along _ _ _ _ c.remove.ensures.changed c.move_others.ensures.todo))
    c.look_back.ensures.fewer

pub returns-else-count-before-clause-kept : goal.returns-else-count-before-clause-kept
returns-else-count-before-clause-kept g c x is =
    reach_more c.args.within.now c.args.left.now c.args.todo.now (with_other_arcs c.args.graph.now c.args.w c.args.both c.args.left.now) c.move_others.new.left c.move_others.new.todo (c.args.both, c.args.both) x c.args.w
    is c.requires.member (others_all c.vertices-vertices.ensures.digraph c.args.w c.args.both c.args.left.now) c.move_others.ensures.left (union_along _ _ _ _ c.remove.ensures.changed c.move_others.ensures.todo)

pub returns-else-count-before-clause-fewer : goal.returns-else-count-before-clause-fewer
returns-else-count-before-clause-fewer g c =
    turn_falls c.args.left.now c.args.todo.now (with_other_arcs c.args.graph.now c.args.w c.args.both c.args.left.now) c.move_others.new.left c.move_others.new.todo c.args.w c.requires.member
    (λ y h. ((others_all c.vertices-vertices.ensures.digraph c.args.w c.args.both c.args.left.now).1 y h).0) c.move_others.ensures.left (union_along _ _ _ _ c.remove.ensures.changed c.move_others.ensures.todo)
