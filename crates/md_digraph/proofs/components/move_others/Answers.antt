use Rattle.md_digraph.proofs.ArcTurns.{others_left, others_moved, lacking_left, lacking_moved}
use Rattle.md_digraph.proofs.components.move_others.Goals as goal

pub returns-then-both-clause-left : goal.returns-then-both-clause-left
returns-then-both-clause-left g c =
    lacking_left c.args.graph.now c.args.w c.args.both c.args.left.now _ _ c.move_unshared.new.self c.move_unshared-then-both.new.self c.if-both.true c.successors-out.ensures.set c.predecessors-into.ensures.set c.move_unshared.ensures.rest c.move_unshared-then-both.ensures.rest

pub returns-then-both-clause-todo : goal.returns-then-both-clause-todo
returns-then-both-clause-todo g c =
    lacking_moved c.args.graph.now c.args.w c.args.both c.args.left.now _ _ c.move_unshared.new.self c.args.todo.now c.move_unshared.new.to c.move_unshared-then-both.new.to c.if-both.true c.successors-out.ensures.set c.predecessors-into.ensures.set c.move_unshared.ensures.rest c.move_unshared.ensures.moved c.move_unshared-then-both.ensures.moved

pub returns-else-both-clause-left : goal.returns-else-both-clause-left
returns-else-both-clause-left g c =
    others_left c.args.graph.now c.args.w c.args.both c.args.left.now _ _ c.move_shared.new.self c.move_shared-else-both.new.self c.if-both.false c.successors-out.ensures.set c.predecessors-into.ensures.set c.move_shared.ensures.rest c.move_shared-else-both.ensures.rest

pub returns-else-both-clause-todo : goal.returns-else-both-clause-todo
returns-else-both-clause-todo g c =
    others_moved c.args.graph.now c.args.w c.args.both c.args.left.now _ _ c.move_shared.new.self c.args.todo.now c.move_shared.new.to c.move_shared-else-both.new.to c.if-both.false c.successors-out.ensures.set c.predecessors-into.ensures.set c.move_shared.ensures.rest c.move_shared.ensures.moved c.move_shared-else-both.ensures.moved
