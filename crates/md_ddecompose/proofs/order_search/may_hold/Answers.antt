use Rattle.std.proofs.Common.{◌∙◌, ap}
use Rattle.std.specs.FinSet.{insert, remove}
use Rattle.md_digraph.specs.PlainDigraph.{has_arc_to}
use Rattle.md_ddecompose.proofs.OrderSearch.{holding_begins, holding_more, holding_ends}
use Rattle.md_ddecompose.proofs.order_search.may_hold.Goals as goal

pub loop-init : goal.loop-init
loop-init g c =
    holding_begins (has_arc_to c.args.graph.now) c.args.set.now c.args.v c.args.last c.remove.new.self c.insert.new.self c.requires.member
    (c.remove.ensures.changed ∙ ap (λ s. remove s c.args.v) c.copy-left.ensures.value) (c.insert.ensures.changed ∙ ap (λ s. insert s c.args.v) c.none-todo.ensures.value)

pub returns-then-is_empty : goal.returns-then-is_empty
returns-then-is_empty g c =
    λ _. holding_ends (has_arc_to c.args.graph.now) c.args.set.now c.args.v c.args.last c.loop.left c.loop.todo c.loop.invariant (c.is_empty.ensures.exactly.0 c.if-is_empty.true)

pub loop-preserved : goal.loop-preserved
loop-preserved g c =
    holding_more (has_arc_to c.args.graph.now) c.args.set.now c.args.v c.args.last c.loop.left c.loop.todo c.remove-in-loop.new.self c.take_others.new.left c.take_others.new.todo c.in-Some.w
    c.loop.invariant c.in-Some.ensures.found c.remove-in-loop.ensures.changed c.take_others.ensures.kept c.take_others.ensures.less c.take_others.ensures.taken
