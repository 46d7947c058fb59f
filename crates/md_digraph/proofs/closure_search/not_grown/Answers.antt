use Rattle.std.proofs.Common.{rules}
use Rattle.md_graph.proofs.Search.{turn_falls}
use Rattle.md_graph.proofs.SetLemmas.{flipped_along, union_along}
use Rattle.md_modules.proofs.Turns.{grow_begin, grow_more, grow_stop}
use Rattle.md_digraph.specs.PlainDigraph.{has_arc_to}
use Rattle.md_digraph.specs.ArcsSeen.{told_apart}
use Rattle.md_digraph.proofs.ArcTurns.{arcs_turn, told_all}
use Rattle.md_digraph.proofs.closure_search.not_grown.Goals as goal

pub loop-w-init : goal.loop-w-init
loop-w-init g c =
    grow_begin c.args.within.now c.args.left.now c.args.todo c.symmetric_difference_with.new.self c.args.v c.requires.fixed c.requires.part c.requires.among c.requires.seen (flipped_along c.args.within.now c.args.left.now c.symmetric_difference_with.new.self c.requires.part c.symmetric_difference_with.ensures.changed)

pub move_apart-requires : goal.move_apart-requires
move_apart-requires g c = (
  search rules,
  (
    search rules,
    (
      c.requires.inside c.args.v (c.requires.part c.args.v c.requires.fixed),
      c.requires.inside c.in-Some.w (c.loop-w.invariant.taken c.in-Some.w c.in-Some.ensures.found.0).0,
    ),
  ),
)

pub loop-w-smaller : goal.loop-w-smaller
loop-w-smaller g c =
    turn_falls c.loop-w.left c.loop-w.todo (told_apart c.args.graph.now c.args.v c.in-Some.w c.loop-w.left) c.move_apart.new.left c.move_apart.new.todo c.in-Some.w c.in-Some.ensures.found.0
    (λ y h. ((told_all c.vertices-vertices.ensures.digraph c.args.v c.in-Some.w c.loop-w.left).1 y h).0)
    c.move_apart.ensures.left (union_along _ _ _ _ c.remove.ensures.changed c.move_apart.ensures.todo)

pub loop-w-preserved : goal.loop-w-preserved
loop-w-preserved g c =
    grow_more (arcs_turn (has_arc_to c.args.graph.now)) c.args.within.now c.args.left.now c.loop-w.left c.loop-w.todo (told_apart c.args.graph.now c.args.v c.in-Some.w c.loop-w.left) c.move_apart.new.left c.move_apart.new.todo c.args.v c.in-Some.w
    c.loop-w.invariant c.in-Some.ensures.found.0 (told_all c.vertices-vertices.ensures.digraph c.args.v c.in-Some.w c.loop-w.left)
    c.move_apart.ensures.left (union_along _ _ _ _ c.remove.ensures.changed c.move_apart.ensures.todo)

pub returns-clause-grown : goal.returns-clause-grown
returns-clause-grown g c =
    grow_stop (arcs_turn (has_arc_to c.args.graph.now)) c.args.within.now c.args.left.now c.loop-w.left c.loop-w.todo c.args.v c.loop-w.invariant c.in_default.ensures.none
