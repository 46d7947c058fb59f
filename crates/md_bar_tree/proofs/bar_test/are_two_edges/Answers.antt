use Rattle.md_bar_tree.proofs.Tested.{two_by_edges}
use Rattle.md_bar_tree.proofs.bar_test.are_two_edges.Goals as goal

pub returns-then-in_pair_order : goal.returns-then-in_pair_order
returns-then-in_pair_order g c =
    two_by_edges c.vertices-vertices.ensures.graph c.args.a c.args.b c.args.c c.args.d (c.in_pair_order.ensures.exactly.0 c.if-in_pair_order.true) c.has_two_edges.result c.has_two_edges.ensures
