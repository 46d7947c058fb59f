use Rattle.md_modules.proofs.Turns.{moved_shared, moved_unshared}
use Rattle.md_modules.proofs.shared.move_seen.Goals as goal

pub returns-then-value-clause-left : goal.returns-then-value-clause-left
returns-then-value-clause-left g c =
    (moved_shared c.args.graph.now c.args.w c.args.value c.args.left.now c.neighbours-row.result.now c.move_shared.new.self c.args.todo.now c.move_shared.new.to c.if-value.true c.neighbours-row.ensures.set c.move_shared.ensures.rest c.move_shared.ensures.moved).0

pub returns-then-value-clause-todo : goal.returns-then-value-clause-todo
returns-then-value-clause-todo g c =
    (moved_shared c.args.graph.now c.args.w c.args.value c.args.left.now c.neighbours-row.result.now c.move_shared.new.self c.args.todo.now c.move_shared.new.to c.if-value.true c.neighbours-row.ensures.set c.move_shared.ensures.rest c.move_shared.ensures.moved).1

pub returns-else-value-clause-left : goal.returns-else-value-clause-left
returns-else-value-clause-left g c =
    (moved_unshared c.args.graph.now c.args.w c.args.value c.args.left.now c.neighbours-row.result.now c.move_unshared.new.self c.args.todo.now c.move_unshared.new.to c.if-value.false c.neighbours-row.ensures.set c.move_unshared.ensures.rest c.move_unshared.ensures.moved).0

pub returns-else-value-clause-todo : goal.returns-else-value-clause-todo
returns-else-value-clause-todo g c =
    (moved_unshared c.args.graph.now c.args.w c.args.value c.args.left.now c.neighbours-row.result.now c.move_unshared.new.self c.args.todo.now c.move_unshared.new.to c.if-value.false c.neighbours-row.ensures.set c.move_unshared.ensures.rest c.move_unshared.ensures.moved).1
