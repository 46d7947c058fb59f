use Rattle.md_digraph.proofs.BackTurns.{shared_rest, shared_moved, unshared_rest, unshared_moved}
use Rattle.md_digraph.proofs.back_search.move_valued.Goals as goal

pub returns-then-value-clause-left : goal.returns-then-value-clause-left
returns-then-value-clause-left g c = shared_rest c.args.left.now c.args.row.now c.move_shared.new.self c.args.value c.if-value.true c.move_shared.ensures.rest

pub returns-then-value-clause-todo : goal.returns-then-value-clause-todo
returns-then-value-clause-todo g c = shared_moved c.args.left.now c.args.row.now c.args.todo.now c.move_shared.new.to c.args.value c.if-value.true c.move_shared.ensures.moved

pub returns-else-value-clause-left : goal.returns-else-value-clause-left
returns-else-value-clause-left g c = unshared_rest c.args.left.now c.args.row.now c.move_unshared.new.self c.args.value c.if-value.false c.move_unshared.ensures.rest

pub returns-else-value-clause-todo : goal.returns-else-value-clause-todo
returns-else-value-clause-todo g c = unshared_moved c.args.left.now c.args.row.now c.args.todo.now c.move_unshared.new.to c.args.value c.if-value.false c.move_unshared.ensures.moved
