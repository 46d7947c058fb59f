use Rattle.md_digraph.specs.PlainDigraph.{has_arc_to}
use Rattle.md_ddecompose.proofs.OrderSearch.{IsHolding}
use Rattle.md_ddecompose.proofs.order_search.may_hold.Given as goal

abbrev pub invariant-loop : goal.invariant-loop
invariant-loop g l = IsHolding (has_arc_to l.graph) l.set l.fn.v l.last l.left l.todo
