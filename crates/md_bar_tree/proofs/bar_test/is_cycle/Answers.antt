use Rattle.md_bar_tree.proofs.Tested.{cycle_by_edges}
use Rattle.md_bar_tree.proofs.bar_test.is_cycle.Goals as goal

pub returns-then-in_cycle_order : goal.returns-then-in_cycle_order
returns-then-in_cycle_order g c =
    cycle_by_edges c.vertices-vertices.ensures.graph c.args.a c.args.b c.args.c c.args.d (c.in_cycle_order.ensures.exactly.0 c.if-in_cycle_order.true) c.has_cycle_edges.result c.has_cycle_edges.ensures
