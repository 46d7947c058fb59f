use Rattle.md_modules.proofs.Modules.{undirected}
use Rattle.md_modules.proofs.Turns.{graph_adjacency, grow_begin, grow_more, grow_stop, apart_in, told_all, rest_apart, taken_apart}
use Rattle.md_graph.proofs.Search.{turn_falls}
use Rattle.md_graph.proofs.SetLemmas.{flipped_along, union_along}
use Rattle.md_modules.proofs.module_search.not_grown.Goals as goal

pub loop-w-init : goal.loop-w-init
loop-w-init g c =
    grow_begin c.args.within.now c.args.left.now c.args.todo c.symmetric_difference_with.new.self c.args.v c.requires.fixed c.requires.part c.requires.among c.requires.seen (flipped_along c.args.within.now c.args.left.now c.symmetric_difference_with.new.self c.requires.part c.symmetric_difference_with.ensures.changed)

pub loop-w-smaller : goal.loop-w-smaller
loop-w-smaller g c =
    turn_falls c.loop-w.left c.loop-w.todo (apart_in c.args.graph.now c.args.v c.in-Some.w c.loop-w.left) c.move_symmetric_difference.new.self c.move_symmetric_difference.new.to c.in-Some.w c.in-Some.ensures.found.0
    (λ y h. ((told_all c.vertices-vertices.ensures.graph c.args.v c.in-Some.w c.loop-w.left).1 y h).0)
    (rest_apart c.args.graph.now c.args.v c.in-Some.w c.loop-w.left c.neighbours.result.now c.neighbours-in-Some.result.now c.move_symmetric_difference.new.self c.neighbours.ensures.set c.neighbours-in-Some.ensures.set c.move_symmetric_difference.ensures.rest)
    (union_along _ _ _ _ c.remove.ensures.changed (taken_apart c.args.graph.now c.args.v c.in-Some.w c.loop-w.left c.neighbours.result.now c.neighbours-in-Some.result.now c.remove.new.self c.move_symmetric_difference.new.to c.neighbours.ensures.set c.neighbours-in-Some.ensures.set c.move_symmetric_difference.ensures.moved))

pub loop-w-preserved : goal.loop-w-preserved
loop-w-preserved g c =
    grow_more (undirected (graph_adjacency c.vertices-vertices.ensures.graph)) c.args.within.now c.args.left.now c.loop-w.left c.loop-w.todo (apart_in c.args.graph.now c.args.v c.in-Some.w c.loop-w.left) c.move_symmetric_difference.new.self c.move_symmetric_difference.new.to c.args.v c.in-Some.w
    c.loop-w.invariant c.in-Some.ensures.found.0 (told_all c.vertices-vertices.ensures.graph c.args.v c.in-Some.w c.loop-w.left)
    (rest_apart c.args.graph.now c.args.v c.in-Some.w c.loop-w.left c.neighbours.result.now c.neighbours-in-Some.result.now c.move_symmetric_difference.new.self c.neighbours.ensures.set c.neighbours-in-Some.ensures.set c.move_symmetric_difference.ensures.rest)
    (union_along _ _ _ _ c.remove.ensures.changed (taken_apart c.args.graph.now c.args.v c.in-Some.w c.loop-w.left c.neighbours.result.now c.neighbours-in-Some.result.now c.remove.new.self c.move_symmetric_difference.new.to c.neighbours.ensures.set c.neighbours-in-Some.ensures.set c.move_symmetric_difference.ensures.moved))

pub returns-clause-grown : goal.returns-clause-grown
returns-clause-grown g c =
    grow_stop (undirected (graph_adjacency c.vertices-vertices.ensures.graph)) c.args.within.now c.args.left.now c.loop-w.left c.loop-w.todo c.args.v c.loop-w.invariant c.in_default.ensures.none
