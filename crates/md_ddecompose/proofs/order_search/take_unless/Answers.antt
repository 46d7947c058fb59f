use Rattle.md_ddecompose.proofs.OrderSearch.{unless_kept, unless_less, unless_taken}
use Rattle.md_ddecompose.proofs.order_search.take_unless.Goals as goal

pub returns-clause-kept : goal.returns-clause-kept
returns-clause-kept g c =
    unless_kept c.args.first.now c.args.second.now c.args.left.now c.move_unshared.new.self c.move_shared.new.self c.args.todo.now c.move_unshared.new.to c.move_shared.new.to
    c.move_unshared.ensures.rest c.move_shared.ensures.rest

pub returns-clause-less : goal.returns-clause-less
returns-clause-less g c =
    unless_less c.args.first.now c.args.second.now c.args.left.now c.move_unshared.new.self c.move_shared.new.self c.args.todo.now c.move_unshared.new.to c.move_shared.new.to
    c.move_unshared.ensures.rest c.move_shared.ensures.rest

pub returns-clause-taken : goal.returns-clause-taken
returns-clause-taken g c =
    unless_taken c.args.first.now c.args.second.now c.args.left.now c.move_unshared.new.self c.move_shared.new.self c.args.todo.now c.move_unshared.new.to c.move_shared.new.to
    c.move_unshared.ensures.rest c.move_shared.ensures.rest c.move_unshared.ensures.moved c.move_shared.ensures.moved
