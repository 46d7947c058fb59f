use Rattle.std.proofs.Common.{◌∙◌, ap, not}
use Rattle.std.specs.FinSet.{union, difference}
use Rattle.md_digraph.proofs.BackTurns.{rest_of_passes, moved_by_passes, told_by_rows}
use Rattle.md_digraph.proofs.back_search.move_told.Goals as goal

pub returns-clause-left : goal.returns-clause-left
returns-clause-left g c =
    rest_of_passes c.args.left.now _ c.predecessors.result.now c.move_valued.new.left c.move_valued-2.new.left (not c.has_arc-2.result) c.move_valued.ensures.left c.move_valued-2.ensures.left
    ∙ ap (difference c.args.left.now)
    (told_by_rows c.args.graph.now c.args.b c.args.v c.args.left.now c.successors.result.now c.predecessors.result.now c.has_arc.result c.has_arc-2.result c.successors.ensures.set c.predecessors.ensures.set c.has_arc.ensures.value c.has_arc-2.ensures.value)

pub returns-clause-todo : goal.returns-clause-todo
returns-clause-todo g c =
    moved_by_passes c.args.left.now _ c.predecessors.result.now c.move_valued.new.left c.args.todo.now c.move_valued.new.todo c.move_valued-2.new.todo (not c.has_arc-2.result) c.move_valued.ensures.left c.move_valued.ensures.todo c.move_valued-2.ensures.todo
    ∙ ap (union c.args.todo.now)
    (told_by_rows c.args.graph.now c.args.b c.args.v c.args.left.now c.successors.result.now c.predecessors.result.now c.has_arc.result c.has_arc-2.result c.successors.ensures.set c.predecessors.ensures.set c.has_arc.ensures.value c.has_arc-2.ensures.value)
