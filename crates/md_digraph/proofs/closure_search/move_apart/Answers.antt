use Rattle.std.proofs.Common.{◌∙◌, ap}
use Rattle.std.specs.FinSet.{union, difference}
use Rattle.md_digraph.proofs.ArcTurns.{rest_of_two, moved_of_two, apart_by_rows}
use Rattle.md_digraph.proofs.closure_search.move_apart.Goals as goal

pub returns-clause-left : goal.returns-clause-left
returns-clause-left g c =
    rest_of_two c.args.left.now _ _ c.move_symmetric_difference.new.self c.move_symmetric_difference-2.new.self c.move_symmetric_difference.ensures.rest c.move_symmetric_difference-2.ensures.rest
    ∙ ap (difference c.args.left.now) (apart_by_rows c.args.graph.now c.args.v c.args.w _ _ _ _ c.args.left.now c.successors.ensures.set c.successors-2.ensures.set c.predecessors.ensures.set c.predecessors-2.ensures.set)

pub returns-clause-todo : goal.returns-clause-todo
returns-clause-todo g c =
    moved_of_two c.args.left.now _ _ c.move_symmetric_difference.new.self c.args.todo.now c.move_symmetric_difference.new.to c.move_symmetric_difference-2.new.to c.move_symmetric_difference.ensures.rest c.move_symmetric_difference.ensures.moved c.move_symmetric_difference-2.ensures.moved
    ∙ ap (union c.args.todo.now) (apart_by_rows c.args.graph.now c.args.v c.args.w _ _ _ _ c.args.left.now c.successors.ensures.set c.successors-2.ensures.set c.predecessors.ensures.set c.predecessors-2.ensures.set)
